-- The layers of a search and the pairs on backward paths.
use Rattle.std.proofs.Common.{◌≡◌, ◌<◌, ◌+◌, ℕ, false, List, map, refl, sym, ap, ◌∙◌, subst, inl, inr, arith}
use Rattle.std.specs.Prelude.{Contains, ◌↔◌}
use Rattle.ca_tree.specs.declared.numbers.ItemId.{ItemId}
use Rattle.ca_reach.specs.Reach.{Table, row, rows_of, Reached}
use Rattle.ca_model.specs.declared.tree.Item.{Item}
use Rattle.ca_model.specs.Codes.{Typed}
use Rattle.ca_model.specs.Sites.{all_items}
use Rattle.ca_model.specs.Links.{Next}
use Rattle.ca_model.specs.Destroying.{destroys}
use Rattle.ca_model.specs.Paths.{Stop, OnPath, begins, goes}
use Rattle.ca_model.specs.Plans.{IsItem}
use Rattle.ca_model.proofs.ApartItems.{links_are_items}
use Rattle.ca_callers.specs.declared.tables.Tables.{Tables}
use Rattle.ca_callers.specs.Callers.{AreTables, ForOne, InOneRow, IsReached, IsTableOf}
use Rattle.ca_callers.proofs.Rows.{numbered_member}

module _ (p : Typed) (depth : ℕ) (from : List ItemId) (t : Tables) (are : AreTables p t) where
  abbrev pub IsOwn : Item → Type 0
  IsOwn i = Contains (all_items p.functions) i

  -- an item at a number that stands on a path from one of the items, with k calls gone up
  abbrev pub AtLayer : ℕ → ℕ → Type 0
  AtLayer k n = (i : Item) × (s : Item) × IsOwn i × Contains from s.id × IsItem p s s.id × OnPath p depth s (i, k) × (i.id.0 ≡ n)

  -- from some starts the k-th layer is reached
  abbrev pub AreStarts : ℕ → List ℕ → Type 0
  AreStarts k starts = (n : ℕ) → IsReached t starts n ↔ AtLayer k n

  pub own_on : (s : Item) → IsOwn s → (a : Stop) → OnPath p depth s a → IsOwn a.0
  own_on s own a begins = own
  own_on s own a (goes {a = b} on (inl (next, d, e))) = (links_are_items p a.0 b.0 next).0
  own_on s own a (goes {a = b} on (inr (f, of, first, threads, call, lt, e))) = call.0

  -- where the starts of a layer are on paths, so is all that is reached from them
  spread : (k : ℕ) (starts : List ℕ) → ((n : ℕ) → Contains starts n → AtLayer k n) → (n : ℕ) → IsReached t starts n → AtLayer k n
  spread k starts begun n (Reached.begins c lt) = begun n c
  spread k starts begun n (Reached.goes {n = m} r c lt) =
      let (i, s, own, has, item, on, place) = spread k starts begun m r in
      let h = (are.back i n own).0 (subst (λ x. Contains (row (rows_of t.back.items) x) n) (sym place) c) in
      (h.0, s, (links_are_items p h.0 i h.1.0).0, has, item, goes on (inl (h.1.0, h.1.1, refl)), h.2)

  one_back : (starts : List ℕ) (a b : Stop) → IsOwn b.0 → IsReached t starts b.0.id.0 → Next p a.0 b.0 → destroys a.0.act ≡ false → IsReached t starts a.0.id.0
  one_back starts a b own r next d = Reached.goes r ((are.back b.0 a.0.id.0 own).1 (a.0, (next, d), refl)) (are.within a.0 (links_are_items p a.0 b.0 next).0)

  pub first_starts : (starts : List ℕ) → starts ≡ map (λ i. i.0) from → ((i : ItemId) → Contains from i → (x : Item) × IsItem p x i) → AreStarts 0 starts
  first_starts starts is items n = (spread 0 starts begun n, λ h. subst (IsReached t starts) h.6 (back h.1 h.3 h.4 (h.0, 0) h.5 refl))
    where
      numbers : (n : ℕ) → Contains (map (λ (i : ItemId). i.0) from) n ↔ ((i : ItemId) × Contains from i × (i.0 ≡ n))
      numbers = numbered_member ItemId (λ i. i.0) from

      begun : (n : ℕ) → Contains starts n → AtLayer 0 n
      begun n c =
          let h = (numbers n).0 (subst (λ l. Contains l n) is c) in
          let x = items h.0 h.1 in
          (x.0, x.0, x.1.0, subst (Contains from) (sym x.1.1) h.1, (x.1.0, refl), begins, ap (λ (i : ItemId). i.0) x.1.1 ∙ h.2)

      back : (s : Item) → Contains from s.id → IsItem p s s.id → (a : Stop) → OnPath p depth s a → a.1 ≡ 0 → IsReached t starts a.0.id.0
      back s has item a begins e = Reached.begins (subst (λ l. Contains l s.id.0) (sym is) ((numbers s.id.0).1 (s.id, has, refl))) (are.within s item.0)
      back s has item a (goes {a = b} on (inl (next, d, k))) e = one_back starts a b (own_on s item.0 b on) (back s has item b on (sym k ∙ e)) next d
      back s has item a (goes {a = b} on (inr (f, of, first, threads, call, lt, k))) e = absurd (omega (arith, k, e))

  pub next_starts : (k : ℕ) (starts next : List ℕ) → k < depth → AreStarts k starts → ((m : ℕ) → Contains next m ↔ InOneRow (rows_of t.above.items) (IsReached t starts) m) → AreStarts (k + 1) next
  next_starts k starts next lt here up n = (spread (k + 1) next begun n, λ h. subst (IsReached t next) h.6 (back h.1 h.3 h.4 (h.0, k + 1) h.5 refl))
    where
      begun : (n : ℕ) → Contains next n → AtLayer (k + 1) n
      begun n c =
          let h = (up n).0 c in
          let (i, s, own, has, item, on, place) = (here h.0).0 h.1 in
          let u = (are.above i n own).0 (subst (λ x. Contains (row (rows_of t.above.items) x) n) (sym place) h.2) in
          let (f, of, first, threads, call) = u.1 in
          (u.0, s, call.0, has, item, goes on (inr (f, of, first, threads, call, lt, refl)), u.2)

      back : (s : Item) → Contains from s.id → IsItem p s s.id → (a : Stop) → OnPath p depth s a → a.1 ≡ k + 1 → IsReached t next a.0.id.0
      back s has item a begins e = absurd (omega (arith, e))
      back s has item a (goes {a = b} on (inl (next', d, j))) e = one_back next a b (own_on s item.0 b on) (back s has item b on (sym j ∙ e)) next' d
      back s has item a (goes {a = b} on (inr (f, of, first, threads, call, below, j))) e =
          let same : b.1 ≡ k = omega (arith, j, e) in
          let own = own_on s item.0 b on in
          let r = (here b.0.id.0).1 (b.0, s, own, has, item, subst (λ m. OnPath p depth s (b.0, m)) same on, refl) in
          Reached.begins ((up a.0.id.0).1 (b.0.id.0, r, (are.above b.0 a.0.id.0 own).1 (a.0, (f, of, first, threads, call), refl))) (are.within a.0 call.0)

  -- what stands in the rows of a layer
  abbrev pub NewFrom : (A : Type 0) → (Stop → A → Type 0) → ℕ → A → Type 0
  NewFrom A Q k x = ForOne p from (λ s. (a : Stop) × OnPath p depth s a × (a.1 ≡ k) × Q a x)

  abbrev pub IsNew : (A : Type 0) → (A → ℕ) → (Stop → A → Type 0) → ℕ → ℕ → Type 0
  IsNew A number Q k m = (x : A) × NewFrom A Q k x × (number x ≡ m)

  pub row_new : (A : Type 0) (number : A → ℕ) (R : A → Item → Type 0) (tab : Table) (k : ℕ) (starts : List ℕ) → IsTableOf A p number R tab → AreStarts k starts → (m : ℕ) → InOneRow tab (IsReached t starts) m ↔ IsNew A number (λ a x. R x a.0) k m
  row_new A number R tab k starts table here m = (
    (λ h.
        let (i, s, own, has, item, on, place) = (here h.0).0 h.1 in
        let r = (table i m own).0 (subst (λ n. Contains (row tab n) m) (sym place) h.2) in
        (r.0, (s, has, item, ((i, k), on, refl, r.1)), r.2)),
    (λ h.
        let (s, has, item, there) = h.1 in
        let (a, on, e, r) = there in
        let own = own_on s item.0 a on in
        (a.0.id.0, (here a.0.id.0).1 (a.0, s, own, has, item, subst (λ n. OnPath p depth s (a.0, n)) e on, refl), (table a.0 m own).1 (h.0, r, h.2))),
  )

  pub row_new_at : (A : Type 0) (number : A → ℕ) (R : A → Item → Type 0) (C : ℕ → Type 0) (tab : Table) (k : ℕ) (starts : List ℕ) → IsTableOf A p number R tab → AreStarts k starts
      → (m : ℕ) → InOneRow tab (λ n. IsReached t starts n × C n) m ↔ IsNew A number (λ a x. R x a.0 × C a.0.id.0) k m
  row_new_at A number R C tab k starts table here m = (
    (λ h.
        let (i, s, own, has, item, on, place) = (here h.0).0 h.1.0 in
        let r = (table i m own).0 (subst (λ n. Contains (row tab n) m) (sym place) h.2) in
        (r.0, (s, has, item, ((i, k), on, refl, (r.1, subst C (sym place) h.1.1))), r.2)),
    (λ h.
        let (s, has, item, there) = h.1 in
        let (a, on, e, r) = there in
        let own = own_on s item.0 a on in
        (a.0.id.0, ((here a.0.id.0).1 (a.0, s, own, has, item, subst (λ n. OnPath p depth s (a.0, n)) e on, refl), r.1), (table a.0 m own).1 (h.0, r.0, h.2))),
  )
