-- The rows of a source, function by function.
use Rattle.std.proofs.Common.{◌≡◌, ◌<◌, ◌≤◌, ◌+◌, ℕ, zero, suc, Bool, List, [], ◌∷◌, length, take, get_or, Some, replicate, refl, sym, ap, ◌∙◌, subst, inl, inr, arith}
use Rattle.std.specs.Prelude.{Contains, ◌↔◌, slice_get}
use Rattle.std.proofs.lemmas.List.{length-replicate}
use Rattle.std.proofs.lemmas.List.Elements.{Contains-append_cases}
use Rattle.ca_tree.specs.declared.numbers.ItemId.{ItemId}
use Rattle.ca_tree.specs.declared.numbers.FunId.{FunId}
use Rattle.ca_reach.specs.Reach.{Table, Adds}
use Rattle.ca_model.specs.declared.tree.Item.{Item}
use Rattle.ca_model.specs.declared.tree.Function.{Function}
use Rattle.ca_model.specs.Codes.{Typed}
use Rattle.ca_model.specs.Sites.{items_of, all_items}
use Rattle.ca_model.specs.Links.{first_item}
use Rattle.ca_model.specs.WellFormed.{IsWellFormed}
use Rattle.ca_model.specs.Paths.{Calls, BeginsThreads}
use Rattle.ca_model.specs.Plans.{IsItem}
use Rattle.ca_model.proofs.Members.{in_none, in_one, at_head, at_tail}
use Rattle.ca_model.proofs.ApartItems.{one_item_a_number, first_is_item}
use Rattle.ca_flow.specs.declared.links.Link.{Link}
use Rattle.ca_flow.specs.Linked.{link_at}
use Rattle.ca_flow.specs.Graphs.{ControlFlow}
use Rattle.ca_flow.specs.Flows.{IsFlowOf}
use Rattle.ca_flow.specs.Lowerings.{Lowering, IsLowering}
use Rattle.ca_flow.proofs.FunctionItems.{place_of, of_function, found_in, number_within, all_numbered}
use Rattle.ca_callers.specs.Callers.{AddsAll, AnyOf, InRow, IsLinked, IsTableOf, IsBehind, IsBehindIn, IsAbove, IsAboveOf, IsBegun, IsTheFirst, item_number, function_number}
use Rattle.ca_callers.proofs.Rows.{same_added, one_added, no_row, taken, take_all}

-- an item of a source stands in one of its functions
in_function : (fs : List Function) (i : Item) → Contains (all_items fs) i → (f : Function) × Contains fs f × Contains (items_of f) i
in_function [] i c = absurd (in_none i c)
in_function (f ∷ fs) i c = elim (Contains-append_cases (items_of f) (all_items fs) i c) [
  | inl here ↦ (f, at_head f fs, here)
  | inr later ↦ let h = in_function fs i later in (h.0, at_tail f fs h.0 h.1, h.2)
]

module _ (l : Lowering) (lowered : IsLowering l) (n : FunId) (f : Function) (at : slice_get l.source.functions n.0 ≡ Some f) where
  pub flow_at : (g : ControlFlow) → slice_get l.graphs n.0 ≡ Some g → IsFlowOf l.source f g
  flow_at g there = (lowered.graphs.each n.0 f g at there).flow

  number_is : n ≡ f.id
  number_is = ap (λ (k : ℕ). let m : FunId = record { 0 = k } in m) (sym (lowered.formed.functions n.0 f at))

  -- the links of its graph
  pub behind_added : (g : ControlFlow) (links : List Link) (d : Bool) (t t' : Table) → slice_get l.graphs n.0 ≡ Some g → links ≡ g.links → AddsAll t t' (AnyOf Link links (IsLinked d)) → AddsAll t t' (InRow Item item_number (IsBehindIn l.source d f))
  behind_added g links d t t' there is adds = same_added t t' (AnyOf Link links (IsLinked d)) (InRow Item item_number (IsBehindIn l.source d f)) same adds
    where
      flow : IsFlowOf l.source f g
      flow = flow_at g there

      same : (k x : ℕ) → AnyOf Link links (IsLinked d) k x ↔ InRow Item item_number (IsBehindIn l.source d f) k x
      same k x = (
        (λ h.
            let (i, j, oi, oj, next, e) = flow.only h.0 (subst (λ ls. Contains ls h.0) is h.1) in
            (j, i, (oj, (next, sym (ap (λ (m : Link). m.destroys) e) ∙ h.2.0)), sym (ap (λ (m : Link). m.to.0) e) ∙ h.2.1, sym (ap (λ (m : Link). m.from.0) e) ∙ h.2.2)),
        (λ h.
            let (j, i, own, to, from) = h in
            let there' = flow.there i j own.0 own.1.0 in
            (link_at i j.id, subst (λ ls. Contains ls (link_at i j.id)) (sym is) there'.1, (own.1.1, to, from))),
      )

  -- the calls of it
  pub above_added : (g : ControlFlow) (first : ItemId) (calls : List ItemId) (t t' : Table) → slice_get l.graphs n.0 ≡ Some g → first ≡ g.first → (BeginsThreads l.source f → ⊥)
      → ((i : ItemId) → Contains calls i ↔ ((x : Item) × IsItem l.source x i × Calls x.act n)) → AddsAll t t' (AnyOf ItemId calls (λ i k x. (k ≡ first.0) × (x ≡ i.0))) → AddsAll t t' (InRow Item item_number (IsAboveOf l.source f))
  above_added g first calls t t' there is threads exact adds = same_added t t' (AnyOf ItemId calls (λ i k x. (k ≡ first.0) × (x ≡ i.0))) (InRow Item item_number (IsAboveOf l.source f)) same adds
    where
      begins : first.0 ≡ (first_item f).id.0
      begins = ap (λ (i : ItemId). i.0) (is ∙ (flow_at g there).starts)

      same : (k x : ℕ) → AnyOf ItemId calls (λ i k x. (k ≡ first.0) × (x ≡ i.0)) k x ↔ InRow Item item_number (IsAboveOf l.source f) k x
      same k x = (
        (λ h.
            let c = (exact h.0).0 h.1 in
            (first_item f, c.0, (refl, threads, (c.1.0, subst (Calls c.0.act) number_is c.2)), sym begins ∙ sym h.2.0, ap (λ (i : ItemId). i.0) c.1.1 ∙ sym h.2.1)),
        (λ h.
            let (i, j, up, at', from) = h in
            (j.id, (exact j.id).1 (j, (up.2.0, refl), subst (Calls j.act) (sym number_is) up.2.1), (sym at' ∙ (ap (λ (y : Item). y.id.0) (sym up.0) ∙ sym begins), sym from))),
      )

  pub begun_added : (g : ControlFlow) (first : ItemId) (t t' : Table) → slice_get l.graphs n.0 ≡ Some g → first ≡ g.first → Adds t t' first.0 n.0 → AddsAll t t' (InRow Function function_number (IsTheFirst f))
  begun_added g first t t' there is adds =
      let begins : first.0 ≡ (first_item f).id.0 = ap (λ (i : ItemId). i.0) (is ∙ (flow_at g there).starts) in
      let number : n.0 ≡ f.id.0 = ap (λ (m : FunId). m.0) number_is in
      one_added t t' first.0 n.0 (InRow Function function_number (IsTheFirst f)) adds (first_item f, f, (refl, refl), sym begins, sym number)
      (λ k x h. (sym h.3 ∙ (ap (λ (y : Item). y.id.0) (sym h.2.1) ∙ sym begins), sym h.4 ∙ (ap function_number h.2.0 ∙ sym number)))

-- ---- whole tables

module _ (p : Typed) (formed : IsWellFormed p) where
  abbrev pub IsOwn : Item → Type 0
  IsOwn i = Contains (all_items p.functions) i

  whole : (A : Type 0) (number : A → ℕ) (R : A → Item → Type 0) (Rf : Function → A → Item → Type 0) (size : ℕ) (t : Table)
      → ((i : Item) → IsOwn i → i.id.0 < size)
      → ((f : Function) (x : A) (i : Item) → Contains p.functions f → Rf f x i → IsOwn i × R x i)
      → ((x : A) (i : Item) → IsOwn i → R x i → (f : Function) × Contains p.functions f × Rf f x i)
      → AddsAll (replicate size []) t (AnyOf Function p.functions (λ f. InRow A number (Rf f))) → IsTableOf A p number R t
  whole A number R Rf size t within of_one in_one adds i n own = (
    (λ c. elim ((adds i.id.0 n).0 c) [
      | inl before ↦ absurd (no_row size i.id.0 n before)
      | inr (h, lt) ↦
          let (j, x, r, at, is) = h.2 in
          let o = of_one h.0 x j h.1 r in
          (x, subst (R x) (one_item_a_number p formed j i o.0 own at) o.1, is)
    ]),
    (λ h.
        let f = in_one h.0 i own h.1 in
        (adds i.id.0 n).1 (inr ((f.0, f.1, (i, h.0, f.2, refl, h.2)), subst (λ k. i.id.0 < k) (sym (length-replicate size [])) (within i own)))),
  )

  module _ (size : ℕ) (within : (i : Item) → IsOwn i → i.id.0 < size) (t : Table) where
    pub behind_whole : (d : Bool) → AddsAll (replicate size []) t (AnyOf Function p.functions (λ f. InRow Item item_number (IsBehindIn p d f))) → IsTableOf Item p item_number (IsBehind p d) t
    behind_whole d = whole Item item_number (IsBehind p d) (IsBehindIn p d) size t within
        (λ f x i own r. (of_function p.functions f i own r.0, r.1))
        (λ x i own r. let f = in_function p.functions i own in (f.0, f.1, (f.2, r)))

    pub above_whole : AddsAll (replicate size []) t (AnyOf Function p.functions (λ f. InRow Item item_number (IsAboveOf p f))) → IsTableOf Item p item_number (IsAbove p) t
    above_whole = whole Item item_number (IsAbove p) (IsAboveOf p) size t within
        (λ f x i own r. (subst IsOwn r.0 (first_is_item p f own), (f, own, r.0, r.1, r.2)))
        (λ x i own r. (r.0, r.1, (r.2, r.3, r.4)))

    pub begun_whole : AddsAll (replicate size []) t (AnyOf Function p.functions (λ f. InRow Function function_number (IsTheFirst f))) → IsTableOf Function p function_number (IsBegun p) t
    begun_whole = whole Function function_number (IsBegun p) IsTheFirst size t within
        (λ f x i own r. (subst IsOwn r.1 (first_is_item p f own), (subst (Contains p.functions) (sym r.0) own, ap first_item r.0 ∙ r.1)))
        (λ x i own r. (x, r.0, (refl, r.1)))

-- a number behind those of all items
pub size_is : (l : Lowering) → IsLowering l → (size : ℕ) → ((g : ControlFlow) (n : ℕ) → Contains l.graphs g → n < g.lowest + g.count → n < 4294967295 → n < size) → (i : Item) → Contains (all_items l.source.functions) i → i.id.0 < size
size_is l lowered size all i own =
    let f = in_function l.source.functions i own in
    let at = place_of l.source.functions f.0 f.1 in
    let many : length l.source.functions ≡ length l.graphs = sym lowered.graphs.count in
    let small : i.id.0 ≤ length (all_items l.source.functions) = (number_within (all_items l.source.functions) (all_numbered l.source lowered.formed) i own).1 in
    let few : length (all_items l.source.functions) ≤ 65536 = lowered.bounded.items in
    let g = graph_at l.graphs at.0 (let lt : at.0 < length l.source.functions = at.2 in omega (arith, lt, many)) in
    let flow = (lowered.graphs.each at.0 f.0 g.0 at.1 g.1).flow in
    all g.0 i.id.0 (found_in l.graphs at.0 g.0 g.1) (flow.within i f.2).1 (omega (arith, small, few))
  where
    graph_at : (gs : List ControlFlow) (k : ℕ) → k < length gs → (g : ControlFlow) × (slice_get gs k ≡ Some g)
    graph_at [] k lt = absurd (omega (arith, lt))
    graph_at (g ∷ gs) zero lt = (g, refl)
    graph_at (g ∷ gs) (suc k) lt = graph_at gs k (omega (arith, lt))

abbrev pub IsBehindAll : List ControlFlow → ℕ → Type 0
IsBehindAll gs size = (g : ControlFlow) (n : ℕ) → Contains gs g → n < g.lowest + g.count → n < 4294967295 → n < size

pub higher_turn : (gs : List ControlFlow) (k : ℕ) (g : ControlFlow) (above size : ℕ) → k < length gs → g ≡ get_or gs k g → IsBehindAll (take k gs) above → above ≤ size → ((n : ℕ) → n < g.lowest + g.count → n < 4294967295 → n < size) → IsBehindAll (take (k + 1) gs) size
higher_turn gs k g above size lt read so least here = subst (λ hs. IsBehindAll hs size) (sym (taken ControlFlow gs k g lt read)) (λ h n c within fits. elim (Contains-append_cases (take k gs) (g ∷ []) h c) [
  | inl old ↦ let less : n < above = so h n old within fits in omega (arith, less, least)
  | inr new ↦ here n (subst (λ (x : ControlFlow). n < x.lowest + x.count) (sym (in_one g h new)) within) fits
])

pub higher_end : (gs : List ControlFlow) (k above : ℕ) → length gs ≤ k → IsBehindAll (take k gs) above → IsBehindAll gs above
higher_end gs k above past so = subst (λ hs. IsBehindAll hs above) (take_all ControlFlow gs k past) so
