-- The links of the graphs of a source are those of the source.
use Rattle.std.proofs.Common.{◌≡◌, ◌<◌, ◌+◌, ℕ, zero, suc, Bool, List, [], ◌∷◌, length, Some, get_or, replicate, refl, sym, ap, ◌∙◌, subst, inl, inr, arith}
use Rattle.std.specs.Prelude.{Contains, slice_get, ◌↔◌}
use Rattle.std.proofs.lemmas.Option.{slice_get_within, get_or_from_slice_get}
use Rattle.std.proofs.lemmas.List.{length-replicate}
use Rattle.std.proofs.lemmas.List.Elements.{Contains-append_cases}
use Rattle.ca_tree.specs.declared.numbers.FunId.{FunId}
use Rattle.ca_tree.specs.declared.numbers.ItemId.{ItemId}
use Rattle.ca_reach.specs.Reach.{Table, row}
use Rattle.ca_model.specs.declared.tree.Item.{Item}
use Rattle.ca_model.specs.declared.tree.Function.{Function}
use Rattle.ca_model.specs.Sites.{items_of, all_items}
use Rattle.ca_model.specs.Links.{first_item}
use Rattle.ca_model.specs.Paths.{Calls, IsCall}
use Rattle.ca_model.specs.Plans.{IsItem}
use Rattle.ca_model.proofs.ApartItems.{links_are_items}
use Rattle.ca_model.proofs.Members.{in_none, at_head, at_tail}
use Rattle.ca_flow.specs.declared.links.Link.{Link}
use Rattle.ca_flow.specs.Graphs.{ControlFlow}
use Rattle.ca_flow.specs.Flows.{IsFlowOf}
use Rattle.ca_flow.specs.Linked.{link_at}
use Rattle.ca_flow.specs.Lowerings.{Lowering, IsLowering}
use Rattle.ca_flow.proofs.FunctionItems.{all_numbered, number_within, place_of}
use Rattle.ca_ahead.proofs.Ahead.{IsTableOf}
use Rattle.ca_ahead.specs.Onward.{LeadsOn, InGraphs, Grows, IsEither}

-- an item of a source stands in one of its functions
in_function : (fs : List Function) (i : Item) → Contains (all_items fs) i → (f : Function) × Contains fs f × Contains (items_of f) i
in_function [] i c = absurd (in_none i c)
in_function (f ∷ fs) i c = elim (Contains-append_cases (items_of f) (all_items fs) i c) [
  | inl here ↦ (f, at_head f fs, here)
  | inr later ↦ let h = in_function fs i later in (h.0, at_tail f fs h.0 h.1, h.2)
]

-- what stands at a place that a list has
pub at_place : {A : Type 0} (xs : List A) (k : ℕ) → k < length xs → (x : A) × (slice_get xs k ≡ Some x)
at_place [] k lt = absurd (omega (arith, lt))
at_place (x ∷ xs) zero lt = (x, refl)
at_place (x ∷ xs) (suc k) lt = at_place xs k (omega (arith, lt))

no_row : (k n m : ℕ) → Contains (row (replicate k []) n) m → ⊥
no_row zero n m c = in_none m c
no_row (suc k) zero m c = in_none m c
no_row (suc k) (suc n) m c = no_row k n m c

-- what a list has at a place
pub read_place : {A : Type 0} (xs : List A) (k : ℕ) (x : A) → slice_get xs k ≡ Some x → x ≡ get_or xs k x
read_place xs k x at = sym (get_or_from_slice_get xs k x x at)

module _ (l : Lowering) (lowered : IsLowering l) where
  graph_of : (f : Function) → Contains l.source.functions f → (g : ControlFlow) × Contains l.graphs g × IsFlowOf l.source f g
  graph_of f own =
      let at = place_of l.source.functions f own in
      let there = at_place l.graphs at.0 (subst (λ n. at.0 < n) (sym lowered.graphs.count) at.2) in
      (there.0, (at.0, slice_get_within l.graphs at.0 there.0 there.1, get_or_from_slice_get l.graphs at.0 there.0 there.0 there.1), (lowered.graphs.each at.0 f there.0 at.1 there.1).flow)

  function_of : (g : ControlFlow) → Contains l.graphs g → (f : Function) × IsFlowOf l.source f g
  function_of g own =
      let at = place_of l.graphs g own in
      let there = at_place l.source.functions at.0 (subst (λ n. at.0 < n) lowered.graphs.count at.2) in
      (there.0, (lowered.graphs.each at.0 there.0 g there.1 at.1).flow)

  pub leads_on : (n m : ℕ) → InGraphs l.graphs n m ↔ LeadsOn l.source n m
  leads_on n m = (
    (λ h.
        let (g, own, (k, there, (d, from, to))) = h in
        let (f, is) = function_of g own in
        let (j, i, oj, oi, next, same) = is.only k there in
        (j, i, next, ap (λ (x : Link). x.destroys) (sym same) ∙ d, ap (λ (x : Link). x.from.0) (sym same) ∙ from, ap (λ (x : Link). x.to.0) (sym same) ∙ to)),
    (λ h.
        let (j, i, next, d, from, to) = h in
        let (f, own, oi) = in_function l.source.functions i (links_are_items l.source j i next).1 in
        let (g, has, is) = graph_of f own in
        (g, has, (link_at j i.id, (is.there j i oi next).1, (d, from, to)))),
  )

  pub item_within : (i : Item) → Contains (all_items l.source.functions) i → i.id.0 < length (all_items l.source.functions) + 1
  item_within i own = let h = (number_within (all_items l.source.functions) (all_numbered l.source lowered.formed) i own).1 in omega (arith, h)

  flow_at : (n : FunId) (f : Function) (g : ControlFlow) → slice_get l.source.functions n.0 ≡ Some f → slice_get l.graphs n.0 ≡ Some g → IsFlowOf l.source f g
  flow_at n f g at there = (lowered.graphs.each n.0 f g at there).flow

  -- the number of a function's first item, as its graph has it
  pub first_number : (n : FunId) (f : Function) (g : ControlFlow) (first : ItemId) → slice_get l.source.functions n.0 ≡ Some f → slice_get l.graphs n.0 ≡ Some g → first ≡ g.first → first.0 ≡ (first_item f).id.0
  first_number n f g first at there is = ap (λ (i : ItemId). i.0) (is ∙ (flow_at n f g at there).starts)

  -- some call of a function, as an item or by its number
  pub call_exact : (n : FunId) (f : Function) (calls : List ItemId) (marked above : List Bool) → slice_get l.source.functions n.0 ≡ Some f → ((i : ItemId) → Contains calls i ↔ ((x : Item) × IsItem l.source x i × Calls x.act n))
      → ((i : ItemId) × Contains calls i × IsEither marked above i.0) ↔ ((c : Item) × IsCall l.source c f × IsEither marked above c.id.0)
  call_exact n f calls marked above at each =
      let same : f.id ≡ n = ap (λ k. record { 0 = k }) (lowered.formed.functions n.0 f at) in (
        (λ h.
            let (i, c, is) = h in
            let (x, (own, number), calls) = (each i).0 c in
            (x, (own, subst (λ (m : FunId). Calls x.act m) (sym same) calls), subst (λ (j : ItemId). IsEither marked above j.0) (sym number) is)),
        (λ h.
            let (c, (own, calls), is) = h in
            (c.id, (each c.id).1 (c, (own, refl), subst (λ (m : FunId). Calls c.act m) same calls), is)),
      )

  -- the rows that are filled from all graphs
  module _ (count : ℕ) (t : Table) (gs : List ControlFlow) (all : count ≡ length (all_items l.source.functions) + 1) (same : gs ≡ l.graphs) (grown : Grows (replicate count []) t (InGraphs gs)) where
    pub rows_long : length t ≡ count
    rows_long = grown.0 ∙ length-replicate count []

    pub rows_exact : (n m : ℕ) → Contains (row t n) m ↔ LeadsOn l.source n m
    rows_exact n m = (
      (λ c. elim ((grown.1 n m).0 c) [
        | inl none ↦ absurd (no_row count n m none)
        | inr there ↦ (leads_on n m).0 (subst (λ xs. InGraphs xs n m) same there.1)
      ]),
      (λ h.
          let (j, i, next, d, from, to) = h in
          let lt : j.id.0 < length (all_items l.source.functions) + 1 = item_within j (links_are_items l.source j i next).0 in
          let size : length {A = List ℕ} (replicate count []) ≡ count = length-replicate count [] in
          (grown.1 n m).1 (inr (omega (arith, lt, from, all, size), subst (λ xs. InGraphs xs n m) (sym same) ((leads_on n m).1 h)))),
    )

  -- the table of the links onward
  pub table_of : (count : ℕ) (t : Table) → count ≡ length (all_items l.source.functions) + 1 → length t ≡ count → ((n m : ℕ) → Contains (row t n) m ↔ LeadsOn l.source n m) → IsTableOf l.source count t
  table_of count t all long exact = record {
    formed = lowered.formed;
    long = long;
    within = λ i own. subst (λ n. i.id.0 < n) (sym all) (item_within i own);
    rows = exact;
  }
