-- The graph of an item's function is that function's.
use Rattle.std.proofs.Common.{◌≡◌, ◌<◌, List, [], ◌∷◌, length, Some, ap, ◌∙◌, subst, inl, inr, arith}
use Rattle.std.specs.Prelude.{Contains, slice_get}
use Rattle.std.proofs.lemmas.List.Elements.{Contains-append_cases}
use Rattle.ca_tree.specs.declared.numbers.FunId.{FunId}
use Rattle.ca_model.specs.declared.tree.Item.{Item}
use Rattle.ca_model.specs.declared.tree.Function.{Function}
use Rattle.ca_model.specs.Sites.{items_of, all_items}
use Rattle.ca_model.proofs.Members.{in_none, at_head, at_tail}
use Rattle.ca_flow.specs.Graphs.{ControlFlow}
use Rattle.ca_flow.specs.Flows.{IsFlowOf}
use Rattle.ca_flow.specs.Lowerings.{Lowering, IsLowering}
use Rattle.ca_flow.proofs.FunctionItems.{place_of}

-- an item of a source stands in one of its functions
pub in_function : (fs : List Function) (i : Item) → Contains (all_items fs) i → (f : Function) × Contains fs f × Contains (items_of f) i
in_function [] i c = absurd (in_none i c)
in_function (f ∷ fs) i c = elim (Contains-append_cases (items_of f) (all_items fs) i c) [
  | inl here ↦ (f, at_head f fs, here)
  | inr later ↦ let h = in_function fs i later in (h.0, at_tail f fs h.0 h.1, h.2)
]

module _ (l : Lowering) (lowered : IsLowering l) where
  pub number_within : (f : Function) → Contains l.source.functions f → f.id.0 < length l.source.functions
  number_within f own =
      let at = place_of l.source.functions f own in
      let same : f.id.0 ≡ at.0 = lowered.formed.functions at.0 f at.1 in
      let lt : at.0 < length l.source.functions = at.2 in
      omega (arith, same, lt)

  pub flow_at : (f : Function) (g : ControlFlow) (n : FunId) → Contains l.source.functions f → n ≡ f.id → slice_get l.graphs n.0 ≡ Some g → IsFlowOf l.source f g
  flow_at f g n own is there =
      let at = place_of l.source.functions f own in
      let same : n.0 ≡ at.0 = ap (λ (m : FunId). m.0) is ∙ lowered.formed.functions at.0 f at.1 in
      (lowered.graphs.each at.0 f g at.1 (subst (λ k. slice_get l.graphs k ≡ Some g) same there)).flow
