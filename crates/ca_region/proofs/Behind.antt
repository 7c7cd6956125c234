-- What the search of a function reaches is what stands before an item.
use Rattle.std.proofs.Common.{◌≡◌, ◌<◌, ◌≤◌, ◌+◌, ◌-◌, ℕ, Bool, true, false, List, [], ◌∷◌, length, map, refl, sym, ap, ◌∙◌, subst, inl, inr, arith}
use Rattle.std.specs.Prelude.{Contains, ◌⊎◌, ◌↔◌}
use Rattle.ca_tree.specs.declared.numbers.ItemId.{ItemId}
use Rattle.ca_reach.specs.Reach.{Table, row, rows_of, Reached, IsSet}
use Rattle.std.specs.Global.{Vec}
use Rattle.ca_model.specs.declared.tree.Item.{Item}
use Rattle.ca_model.specs.declared.tree.Function.{Function}
use Rattle.ca_model.specs.Codes.{Typed}
use Rattle.ca_model.specs.Sites.{items_of, all_items}
use Rattle.ca_model.specs.Links.{Next, first_item}
use Rattle.ca_model.specs.Destroying.{destroys}
use Rattle.ca_model.specs.Paths.{Stop, GoesUp, Goes, OnPath, begins, goes, Before, PointAfter}
use Rattle.ca_model.proofs.ApartItems.{one_item_a_number, first_is_own}
use Rattle.ca_model.proofs.Members.{in_none, in_cons, at_head, at_tail}
use Rattle.std.proofs.lemmas.List.Elements.{Contains-append_left, Contains-append_right}
use Rattle.ca_flow.specs.declared.links.Link.{Link}
use Rattle.ca_flow.specs.Linked.{link_at}
use Rattle.ca_flow.specs.Graphs.{ControlFlow}
use Rattle.ca_flow.specs.Flows.{IsFlowOf}
use Rattle.ca_region.specs.Regions.{IsAt, IsLinked, IsBack, IsEnd}

-- the table of the links back
abbrev pub IsTable : ControlFlow → Table → Type 0
IsTable g t = (n m : ℕ) → Contains (row t n) m ↔ ((n < g.count) × IsBack g.lowest g.links n m)

in_numbers : (r : List ItemId) (i : ItemId) → Contains r i → Contains (map (λ i. i.0) r) i.0
in_numbers [] i c = absurd (in_none i c)
in_numbers (x ∷ r) i c = elim (in_cons x r i c) [
  | inl is ↦ subst (λ (y : ItemId). Contains (map (λ i. i.0) (x ∷ r)) y.0) is (at_head x.0 (map (λ i. i.0) r))
  | inr more ↦ at_tail x.0 (map (λ i. i.0) r) i.0 (in_numbers r i more)
]

of_numbers : (r : List ItemId) (i : ItemId) → Contains (map (λ i. i.0) r) i.0 → Contains r i
of_numbers [] i c = absurd (in_none i.0 c)
of_numbers (x ∷ r) i c = elim (in_cons x.0 (map (λ i. i.0) r) i.0 c) [
  | inl is ↦ subst (Contains (x ∷ r)) (ap (λ n. record { 0 = n }) is) (at_head x r)
  | inr more ↦ at_tail x r i (of_numbers r i more)
]

-- the flags of a search, where its tables and starts are read through references
pub flags_of : (vs d e : List (Vec ℕ)) (flags : List Bool) (starts : List ℕ) (start a : ℕ) → d ≡ vs → e ≡ vs → starts ≡ row (rows_of e) start → start ≡ a → ((n : ℕ) → IsSet flags n ↔ Reached (rows_of d) starts n) → (n : ℕ) → IsSet flags n ↔ Reached (rows_of vs) (row (rows_of vs) a) n
flags_of vs d e flags starts start a d-is e-is from begin exact =
    subst (λ ss. (n : ℕ) → IsSet flags n ↔ Reached (rows_of vs) ss n) (from ∙ (ap (λ x. row (rows_of x) start) e-is ∙ ap (row (rows_of vs)) begin)) (subst (λ x. (n : ℕ) → IsSet flags n ↔ Reached (rows_of x) starts n) d-is exact)

-- without calls there is no way up
no_up : (p : Typed) (a b : Stop) → GoesUp p 0 a b → ⊥
no_up p a b (f, own, first, threads, call, below, up) = omega (arith, below)

level : (p : Typed) (s : Item) (a : Stop) → OnPath p 0 s a → a.1 ≡ 0
level p s a begins = refl
level p s a (goes {a = c} on (inl (next, d, k))) = k ∙ level p s c on
level p s a (goes {a = c} on (inr up)) = absurd (no_up p c a up)

module _ (p : Typed) (f : Function) (g : ControlFlow) (is : IsFlowOf p f g) where
  abbrev pub Own : Item → Type 0
  Own i = Contains (items_of f) i

  abbrev pub at : Item → ℕ
  at i = i.id.0 - g.lowest

  own_item : (fs : List Function) (i : Item) → Contains fs f → Own i → Contains (all_items fs) i
  own_item [] i c within = absurd (in_none f c)
  own_item (h ∷ fs) i c within = elim (in_cons h fs f c) [
    | inl same ↦ Contains-append_left (items_of h) (all_items fs) i (subst (λ h. Contains (items_of h) i) (sym same) within)
    | inr more ↦ Contains-append_right (items_of h) (all_items fs) i (own_item fs i more within)
  ]

  -- own items at one place are one item
  one_place : (i j : Item) → Own i → Own j → at i ≡ at j → i ≡ j
  one_place i j oi oj same =
      let a : g.lowest ≤ i.id.0 = (is.within i oi).0 in
      let b : g.lowest ≤ j.id.0 = (is.within j oj).0 in
      one_item_a_number p is.formed i j (own_item p.functions i is.own oi) (own_item p.functions j is.own oj) (omega (arith, a, b, same))

  within_count : (i : Item) → Own i → at i < g.count
  within_count i oi = let a : g.lowest ≤ i.id.0 = (is.within i oi).0 in let b : i.id.0 < g.lowest + g.count = (is.within i oi).1 in omega (arith, a, b)

  -- the list of the items whose places are set
  abbrev pub IsListed : List Bool → List ItemId → Type 0
  IsListed set r = (n : ℕ) → n < 4294967296 → Contains (map (λ i. i.0) r) n ↔ ((g.lowest ≤ n) × IsSet set (n - g.lowest))

  list_exact : (P : Item → Type 0) (set : List Bool) (r : List ItemId) → IsListed set r → ((n : ℕ) → IsSet set n → (j : Item) × Own j × P j × (at j ≡ n)) → ((j : Item) → P j → Own j × IsSet set (at j))
      → (i : ItemId) → i.0 < 4294967296 → Contains r i ↔ ((j : Item) × (j.id ≡ i) × P j)
  list_exact P set r listed sound full i fits = (
    (λ c.
        let b = (listed i.0 fits).0 (in_numbers r i c) in
        let h = sound (i.0 - g.lowest) b.1 in
        let le = b.0 in
        let from = (is.within h.0 h.1).0 in
        let place = h.3 in
        let same : h.0.id.0 ≡ i.0 = omega (arith, le, from, place) in
        (h.0, ap (λ n. record { 0 = n }) same, h.2)),
    (λ h.
        let e = full h.0 h.2 in
        of_numbers r i (subst (λ (x : ItemId). Contains (map (λ i. i.0) r) x.0) h.1 ((listed h.0.id.0 (subst (λ (x : ItemId). x.0 < 4294967296) (sym h.1) fits)).1 ((is.within h.0 e.0).0, e.1)))),
  )

  -- a link of the table is one of items, and the other way round
  step_back : (b : Bool) (m : ℕ) (i : Item) → Own i → IsLinked g.lowest g.links b m (at i) → (j : Item) × Own j × Next p j i × (destroys j.act ≡ b) × (at j ≡ m)
  step_back b m i oi (l, c, d, to, from) =
      let o = is.only l c in
      let same : o.1 ≡ i = one_place o.1 i o.3 oi (ap (λ (l : Link). l.to.0 - g.lowest) (sym o.5) ∙ to) in
      (o.0, o.2, subst (Next p o.0) same o.4, ap (λ (l : Link). l.destroys) (sym o.5) ∙ d, ap (λ (l : Link). l.from.0 - g.lowest) (sym o.5) ∙ from)

  step_there : (i j : Item) (b : Bool) → Own i → Next p j i → destroys j.act ≡ b → Own j × IsLinked g.lowest g.links b (at j) (at i)
  step_there i j b oi next d = let h = is.there j i oi next in (h.0, (link_at j i.id, h.1, d, refl, refl))

  module _ (t : Table) (rows : IsTable g t) (long : length t ≡ g.count) (s : Item) (os : Own s) where
    abbrev pub Found : ℕ → Type 0
    Found n = Reached t (row t (at s)) n

    -- an item at a place that stands before s
    abbrev pub BeforeAt : ℕ → Type 0
    BeforeAt n = (j : Item) × Own j × Before p 0 s j × (at j ≡ n)

    pub behind : (n : ℕ) → Found n → BeforeAt n
    behind n (Reached.begins c lt) =
        let h = step_back false n s os ((rows (at s) n).0 c).1 in
        (h.0, h.1, ((s, 0), 0, begins, inl (h.2, h.3, refl)), h.4)
    behind n (Reached.goes {n = m} r c lt) =
        let (i, oi, (a, k, on, go), place) = behind m r in
        let h = step_back false n i oi ((rows (at i) n).0 (subst (λ x. Contains (row t x) n) (sym place) c)).1 in
        (h.0, h.1, ((i, k), k, goes on go, inl (h.2, h.3, refl)), h.4)

    in_row : (i j : Item) → Own i → Own j → IsLinked g.lowest g.links false (at j) (at i) → Contains (row t (at i)) (at j)
    in_row i j oi oj l = (rows (at i) (at j)).1 (within_count i oi, l)

    abbrev IsFound : Item → Type 0
    IsFound j = Own j × Found (at j)

    one_back : (a b : Stop) → (a.0 ≡ s) ⊎ IsFound a.0 → Goes p 0 a b → IsFound b.0
    one_back a b (inl same) (inl (next, d, k)) =
        let h = step_there s b.0 false os (subst (Next p b.0) same next) d in
        (h.0, Reached.begins (in_row s b.0 os h.0 h.1) (subst (λ n. at b.0 < n) (sym long) (within_count b.0 h.0)))
    one_back a b (inr (oa, r)) (inl (next, d, k)) =
        let h = step_there a.0 b.0 false oa next d in
        (h.0, Reached.goes r (in_row a.0 b.0 oa h.0 h.1) (subst (λ n. at b.0 < n) (sym long) (within_count b.0 h.0)))
    one_back a b e (inr up) = absurd (no_up p a b up)

    on_found : (a : Stop) → OnPath p 0 s a → (a.0 ≡ s) ⊎ IsFound a.0
    on_found a begins = inl refl
    on_found a (goes {a = c} on go) = inr (one_back c a (on_found c on) go)

    pub before_found : (j : Item) → Before p 0 s j → IsFound j
    before_found j (a, k, on, go) = one_back a (j, k) (on_found a on) go

    module _ (flags : List Bool) (exact : (n : ℕ) → IsSet flags n ↔ Found n) where
      abbrev pub Ends : ℕ → Type 0
      Ends m = IsEnd g.lowest g.links (λ n. IsAt (at s) flags n) m

      pub end_after : (m : ℕ) → Ends m → (j : Item) × Own j × PointAfter p 0 s j × (at j ≡ m)
      end_after m (n, inl start, l) =
          let h = step_back true m s os (subst (λ x. IsLinked g.lowest g.links true m x) start l) in
          (h.0, h.1, ((s, 0), begins, h.2, h.3), h.4)
      end_after m (n, inr set, l) =
          let (i, oi, (a, k, on, go), place) = behind n ((exact n).0 set) in
          let h = step_back true m i oi (subst (λ x. IsLinked g.lowest g.links true m x) (sym place) l) in
          (h.0, h.1, ((i, k), goes on go, h.2, h.3), h.4)

      from_at : (i : Item) → (i ≡ s) ⊎ IsFound i → Own i × IsAt (at s) flags (at i)
      from_at i (inl same) = (subst Own (sym same) os, inl (ap at same))
      from_at i (inr (oi, r)) = (oi, inr ((exact (at i)).1 r))

      pub after_end : (j : Item) → PointAfter p 0 s j → Own j × Ends (at j)
      after_end j (a, on, next, d) =
          let e = from_at a.0 (on_found a on) in
          let h = step_there a.0 j true e.0 next d in
          (h.0, (at a.0, e.1, h.1))

      pub entry_reached : (i : Item) → Own i → IsAt (at s) flags (at i) → OnPath p 0 s (i, 0)
      entry_reached i oi (inl same) = subst (λ x. OnPath p 0 s (x, 0)) (sym (one_place i s oi os same)) begins
      entry_reached i oi (inr set) =
          let (j, oj, (a, k, on, go), place) = behind (at i) ((exact (at i)).0 set) in
          let there : OnPath p 0 s (j, k) = goes on go in
          subst (λ x. OnPath p 0 s (x, 0)) (one_place j i oj oi place) (subst (λ k. OnPath p 0 s (j, k)) (level p s (j, k) there) there)

      pub entry_exact : (start n : ℕ) → start ≡ at s → n ≡ at (first_item f) → IsAt start flags n ↔ OnPath p 0 s (first_item f, 0)
      entry_exact start n begin place = (
        (λ e. entry_reached (first_item f) (first_is_own f) (subst (λ x. IsAt x flags (at (first_item f))) begin (subst (λ x. IsAt start flags x) place e))),
        (λ on. subst (λ x. IsAt start flags x) (sym place) (subst (λ x. IsAt x flags (at (first_item f))) (sym begin) (from_at (first_item f) (on_found (first_item f, 0) on)).1)),
      )

      -- the flags of the ends, where they are those of the table
      abbrev IsEndsOf : ℕ → List Bool → Type 0
      IsEndsOf start set = (m : ℕ) → IsSet set m ↔ ((m < g.count) × IsEnd g.lowest g.links (λ n. IsAt start flags n) m)

      pub ends_listed : (start : ℕ) (set : List Bool) (r : List ItemId) → start ≡ at s → IsEndsOf start set → IsListed set r → (i : ItemId) → i.0 < 4294967296 → Contains r i ↔ ((j : Item) × (j.id ≡ i) × PointAfter p 0 s j)
      ends_listed start set r begin ends listed =
          let here : IsEndsOf (at s) set = subst (λ x. IsEndsOf x set) begin ends in
          list_exact (PointAfter p 0 s) set r listed (λ n is. end_after n ((here n).0 is).1) (λ j h. let e = after_end j h in (e.0, (here (at j)).1 (within_count j e.0, e.1)))

      pub behind_listed : (r : List ItemId) → IsListed flags r → (i : ItemId) → i.0 < 4294967296 → Contains r i ↔ ((j : Item) × (j.id ≡ i) × Before p 0 s j)
      behind_listed r listed = list_exact (Before p 0 s) flags r listed (λ n is. behind n ((exact n).0 is)) (λ j h. let e = before_found j h in (e.0, (exact (at j)).1 e.1))
