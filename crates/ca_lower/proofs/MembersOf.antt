-- Items of functions and of statements.
use Rattle.std.proofs.Common.{List, [], ◌∷◌, sym, subst, inl, inr}
use Rattle.std.specs.Prelude.{Contains}
use Rattle.std.proofs.lemmas.List.Elements.{Contains-append_left, Contains-append_right}
use Rattle.ca_model.specs.declared.tree.Item.{Item}
use Rattle.ca_model.specs.declared.tree.Function.{Function}
use Rattle.ca_model.specs.Sites.{items_of, all_items}
use Rattle.ca_model.proofs.Members.{in_none, in_cons}

pub of_function : (fs : List Function) (f : Function) (i : Item) → Contains fs f → Contains (items_of f) i → Contains (all_items fs) i
of_function [] f i c h = absurd (in_none f c)
of_function (g ∷ fs) f i c h = elim (in_cons g fs f c) [
  | inl here ↦ Contains-append_left (items_of g) (all_items fs) i (subst (λ f. Contains (items_of f) i) (sym here) h)
  | inr more ↦ Contains-append_right (items_of g) (all_items fs) i (of_function fs f i more h)
]
