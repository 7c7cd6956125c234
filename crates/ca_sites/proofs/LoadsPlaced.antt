-- What an expression is has a load for each place of one in the text.
use Rattle.std.proofs.Common.{◌≡◌, false, [], ◌∷◌, ◌++◌, List, refl, sym, ap, ◌∙◌, subst}
use Rattle.std.specs.Prelude.{IfSome}
use Rattle.ca_tree.specs.declared.text.Pos.{Pos}
use Rattle.ca_tree.specs.declared.tree.Exp.{Exp, roll-Exp, ind-Exp, map-Exp, fold-roll-Exp}
use Rattle.ca_tree.specs.declared.tree.Exp.TheOpen.{Exp-F}
use Rattle.ca_model.specs.declared.tree.Target.{Target}
use Rattle.ca_model.specs.declared.tree.Target.TheVariants as target
use Rattle.ca_model.specs.declared.types.ObjectType.{ObjectType}
use Rattle.ca_model.specs.declared.types.Operand.{Operand}
use Rattle.ca_model.specs.declared.types.Operand.TheVariants as operand
use Rattle.ca_model.specs.Accesses.{loads, kinds, accesses_to}
use Rattle.ca_model.specs.typing.Types.{held}
use Rattle.ca_model.specs.typing.Values.{also, value_of}
use Rattle.ca_model.specs.typing.Targets.{target_of}
use Rattle.ca_model.specs.typing.Scopes.{Scope, meaning, field_count}
use Rattle.ca_model.specs.typing.Places.{indexed, struct_place, struct_behind}
use Rattle.ca_model.specs.typing.Operators.{binary}
use Rattle.ca_model.specs.typing.Expressions.{Judged, both, named, by_unary, chosen, exp_step, judged}
use Rattle.ca_model.proofs.MissingAnswers.{also_if, also_each, both_if, so_if}
use Rattle.ca_model.proofs.Equations.{accesses_num, accesses_null}
use Rattle.ca_sites.specs.TextSites.{Sought, valued, sought}
use Rattle.ca_sites.specs.TextSites as text
use Rattle.ca_sites.specs.SiteLaws.{all_loads, ValuesHavePlaces, TargetsHavePlaces}
use Rattle.ca_sites.proofs.TypedLoads.{Agrees, HasSites, sites_to, value_has, unary_agrees, struct_place_agrees, struct_behind_agrees, chosen_agrees, named_agrees, binary_agrees, indexed_agrees, all_valued}

abbrev Found : Sought → Operand → Type 0
Found f x = Agrees (all_loads f.within) f.through x

module _ (s : Scope) where
  abbrev Holds : Exp → Type 0
  Holds a = IfSome (judged s a).is (Found (sought a))

  abbrev Such : Type 0
  Such = (a : Exp) × Holds a

  abbrev tree : Exp-F Such → Exp-F Exp
  tree x = map-Exp Such Exp (λ a. a.0) x

  abbrev Level : Exp-F Exp → Type 0
  Level x = IfSome (exp_step s (map-Exp Exp Judged (judged s) x)).is (Found (text.exp_step (map-Exp Exp Sought sought x)))

  each : (x : Exp-F Such) → Level (tree x)
  each (Exp-F.Number p k) = (ap kinds (accesses_num k), refl)
  each (Exp-F.Null p) = (ap kinds accesses_null, refl)
  each (Exp-F.Name x) = also_each (Agrees [] _) (meaning s x.text) named (λ w. named_agrees w)
  each (Exp-F.Unary p o a) = also_if (Found (sought a.0)) _ (judged s a.0).is (by_unary o) a.1 (λ x h. unary_agrees (sought a.0) o p x h)
  each (Exp-F.Binary p o a b) =
      also_if (λ (z : Operand × Operand). Found (sought a.0) z.0 × Found (sought b.0) z.1) _ (both (judged s a.0).is (judged s b.0).is) (λ z. binary (field_count s) o z.0 z.1)
      (both_if (Found (sought a.0)) (Found (sought b.0)) (judged s a.0).is (judged s b.0).is a.1 b.1) (λ z h. binary_agrees (sought a.0) (sought b.0) (field_count s) o z.0 z.1 h.0 h.1)
  each (Exp-F.Index p a i) =
      also_if (λ (z : Operand × Operand). Found (sought a.0) z.0 × Found (sought i.0) z.1) _ (both (judged s a.0).is (judged s i.0).is) (λ z. indexed (field_count s) z.0 z.1)
      (both_if (Found (sought a.0)) (Found (sought i.0)) (judged s a.0).is (judged s i.0).is a.1 i.1) (λ z h. indexed_agrees (sought a.0) (sought i.0) (field_count s) z.0 z.1 h.0 h.1)
  each (Exp-F.Field p a x) = also_if (Found (sought a.0)) _ (judged s a.0).is (λ z. chosen s x (struct_place z)) a.1 (λ z h. chosen_agrees _ _ s x (struct_place z) (struct_place_agrees (sought a.0) z h))
  each (Exp-F.Arrow p a x) = also_if (Found (sought a.0)) _ (judged s a.0).is (λ z. chosen s x (struct_behind z)) a.1 (λ z h. chosen_agrees _ _ s x (struct_behind z) (struct_behind_agrees (sought a.0) z h))

  of_level : (x : Exp-F Exp) → Level x → Holds (roll-Exp x)
  of_level x h =
      subst (λ (j : Judged). IfSome j.is (Found (sought (roll-Exp x)))) (sym (fold-roll-Exp Judged (exp_step s) x))
      (subst (λ (f : Sought). IfSome (exp_step s (map-Exp Exp Judged (judged s) x)).is (Found f)) (sym (fold-roll-Exp Sought text.exp_step x)) h)

  operand_found : (a : Exp) → Holds a
  operand_found = ind-Exp Holds (λ x y is. subst (λ z. Holds (roll-Exp z)) is (of_level (tree y) (each y)))

pub values_placed : ValuesHavePlaces
values_placed s x v is =
    so_if (HasSites (all_loads (sought x).within ++ kinds (loads (sought x).through))) (also (judged s x).is value_of) v is
    (also_if (Found (sought x)) (HasSites (all_loads (sought x).within ++ kinds (loads (sought x).through))) (judged s x).is value_of (operand_found s x) (λ o h. value_has (all_loads (sought x).within) (sought x).through o h))
    ∙ sym (all_valued (sought x))

-- what is assigned to
abbrev pub AtPlace : Sought → Target → Type 0
AtPlace f (target.Local x) = (f.within ≡ []) × (f.through ≡ false)
AtPlace f (target.Place p) = (sites_to p ≡ all_loads f.within) × ((accesses_to p).0 ≡ f.through)

abbrev pub Aimed : Sought → ObjectType × Target → Type 0
Aimed f z = AtPlace f z.1

no_places : (ps : List Pos) → all_loads ps ≡ [] → ps ≡ []
no_places [] h = refl
no_places (p ∷ ps) h = absurd cc

target_placed : (f : Sought) (o : Operand) → Found f o → IfSome (target_of o) (Aimed f)
target_placed f (operand.Value t a) h = tt
target_placed f (operand.Local t x) h = (no_places f.within h.0, h.1)
target_placed f (operand.Place t p) h = also_each (Aimed f) (held t) _ (λ v. h)
target_placed f operand.Name h = tt

pub aimed : (s : Scope) (x : Exp) → IfSome (also (judged s x).is target_of) (Aimed (sought x))
aimed s x = also_if (Found (sought x)) (Aimed (sought x)) (judged s x).is target_of (operand_found s x) (λ o h. target_placed (sought x) o h)

pub targets_placed : TargetsHavePlaces
targets_placed s x t p is = so_if (Aimed (sought x)) (also (judged s x).is target_of) (t, target.Place p) is (aimed s x)
