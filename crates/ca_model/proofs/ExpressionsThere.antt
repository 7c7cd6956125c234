-- An expression in which nothing is wrong is something, where no type of what is visible was refused.
use Rattle.std.proofs.Common.{◌≡◌, ℕ, true, List, [], ◌++◌, Option, Some, None, refl, sym, subst}
use Rattle.std.specs.Prelude.{IfSome}
use Rattle.std.specs.Option.{is_some}
use Rattle.ca_tree.specs.declared.text.Pos.{Pos}
use Rattle.ca_tree.specs.declared.numbers.StructId.{StructId}
use Rattle.ca_tree.specs.declared.tree.Name.{Name}
use Rattle.ca_tree.specs.declared.tree.UnaryOp.{UnaryOp}
use Rattle.ca_tree.specs.declared.tree.UnaryOp.TheVariants as unary_op
use Rattle.ca_tree.specs.declared.tree.Exp.{Exp, roll-Exp, ind-Exp, map-Exp, fold-roll-Exp}
use Rattle.ca_tree.specs.declared.tree.Exp.TheOpen.{Exp-F}
use Rattle.ca_model.specs.declared.tree.Place.{Place}
use Rattle.ca_model.specs.declared.types.TypeFault.{TypeFault}
use Rattle.ca_model.specs.declared.types.ObjectType.{ObjectType}
use Rattle.ca_model.specs.declared.types.Operand.{Operand}
use Rattle.ca_model.specs.declared.types.Meaning.{Meaning}
use Rattle.ca_model.specs.declared.types.Meaning.TheVariants as means
use Rattle.ca_model.specs.typing.Faults.{if_none}
use Rattle.ca_model.specs.typing.Values.{also}
use Rattle.ca_model.specs.typing.Places.{address, indexed, struct_place, struct_behind}
use Rattle.ca_model.specs.typing.Operators.{binary}
use Rattle.ca_model.specs.typing.Scopes.{Scope, meaning, field_of, field_count}
use Rattle.ca_model.specs.typing.Expressions.{Judged, both, of_type, named, by_unary, unary_faults, field_place, chosen, not_chosen, exp_step, judged}
use Rattle.ca_model.proofs.EmptyFaults.{none_in, there_if, rule_there, place_there}

-- no type of what it means was refused
abbrev pub HasType : Meaning → Type 0
HasType (means.Global g t) = is_some t ≡ true
HasType (means.Array g t) = is_some t ≡ true
HasType (means.Local x t) = is_some t ≡ true
HasType _ = Unit {0}

abbrev pub Typed_field : ℕ × Option ObjectType → Type 0
Typed_field f = is_some f.1 ≡ true

-- no type of a visible name or of a field was refused
pub record Knows_types (s : Scope) : Type 0 where
  pub names : (x : List ℕ) → IfSome (meaning s x) HasType
  pub fields : (i : StructId) (x : List ℕ) → IfSome (field_of s i x) Typed_field

of_type_there : (f : ObjectType → Operand) (t : Option ObjectType) → is_some t ≡ true → is_some (of_type f t) ≡ true
of_type_there f None h = absurd cc
of_type_there f (Some t) h = refl

named_there : (w : Meaning) → HasType w → is_some (named w) ≡ true
named_there (means.Mutex k) h = refl
named_there (means.Function f) h = refl
named_there (means.Global g t) h = of_type_there _ t h
named_there (means.Array g t) h = of_type_there _ t h
named_there (means.Local x t) h = of_type_there _ t h

name_there : (o : Option Meaning) (x : TypeFault) → IfSome o HasType → if_none x o ≡ [] → is_some (also o named) ≡ true
name_there None x h none = absurd cc
name_there (Some w) x h none = named_there w h

both_there : {A B : Type 0} (a : Option A) (b : Option B) → is_some a ≡ true → is_some b ≡ true → is_some (both a b) ≡ true
both_there None b h i = absurd cc
both_there (Some x) None h i = absurd cc
both_there (Some x) (Some y) h i = refl

unary_there : (o : UnaryOp) (p : Pos) (a : Judged) → is_some a.is ≡ true → unary_faults o p a ≡ [] → is_some (also a.is (by_unary o)) ≡ true
unary_there unary_op.Negate p a there h = rule_there a.is (by_unary unary_op.Negate) _ (λ x none. there_if _ (by_unary unary_op.Negate x) none) there h
unary_there unary_op.Not p a there h = rule_there a.is (by_unary unary_op.Not) _ (λ x none. there_if _ (by_unary unary_op.Not x) none) there h
unary_there unary_op.Deref p a there h = rule_there a.is (by_unary unary_op.Deref) _ (λ x none. there_if _ (by_unary unary_op.Deref x) none) there h
unary_there unary_op.AddressOf p a there h = place_there a address h there

field_place_there : (x : Place) (f : Option (ℕ × Option ObjectType)) → IfSome f Typed_field → is_some f ≡ true → is_some (field_place x f) ≡ true
field_place_there x None typed there = absurd cc
field_place_there x (Some f) typed there = of_type_there _ f.1 typed

module _ (s : Scope) (typed : Knows_types s) where
  chosen_there : (p : Pos) (n : Name) (a : Option (StructId × Place)) → not_chosen s p n a ≡ [] → is_some (chosen s n a) ≡ true
  chosen_there p n None h = absurd cc
  chosen_there p n (Some x) h = field_place_there x.1 (field_of s x.0 n.text) (typed.fields x.0 n.text) (there_if _ (field_of s x.0 n.text) h)

  abbrev Holds : Exp → Type 0
  Holds a = (judged s a).faults ≡ [] → is_some (judged s a).is ≡ true

  abbrev Such : Type 0
  Such = (a : Exp) × Holds a

  abbrev tree : Exp-F Such → Exp-F Exp
  tree x = map-Exp Such Exp (λ a. a.0) x

  abbrev stepped : Exp-F Exp → Judged
  stepped x = exp_step s (map-Exp Exp Judged (judged s) x)

  abbrev Level : Exp-F Exp → Type 0
  Level x = (stepped x).faults ≡ [] → is_some (stepped x).is ≡ true

  of_both : (a b : Exp) → Holds a → Holds b → (judged s a).faults ++ (judged s b).faults ≡ [] → is_some (both (judged s a).is (judged s b).is) ≡ true
  of_both a b h i none = let parts = none_in (judged s a).faults (judged s b).faults none in both_there (judged s a).is (judged s b).is (h parts.0) (i parts.1)

  each : (x : Exp-F Such) → Level (tree x)
  each (Exp-F.Number p k) none = refl
  each (Exp-F.Null p) none = refl
  each (Exp-F.Name x) none = name_there (meaning s x.text) _ (typed.names x.text) none
  each (Exp-F.Unary p o a) none =
      let parts = none_in (judged s a.0).faults (unary_faults o p (judged s a.0)) none in
      unary_there o p (judged s a.0) (a.1 parts.0) parts.1
  each (Exp-F.Binary p o a b) none =
      let parts = none_in ((judged s a.0).faults ++ (judged s b.0).faults) _ none in
      rule_there (both (judged s a.0).is (judged s b.0).is) _ _ (λ z h. there_if _ (binary (field_count s) o z.0 z.1) h) (of_both a.0 b.0 a.1 b.1 parts.0) parts.1
  each (Exp-F.Index p a i) none =
      let parts = none_in ((judged s a.0).faults ++ (judged s i.0).faults) _ none in
      rule_there (both (judged s a.0).is (judged s i.0).is) _ _ (λ z h. there_if _ (indexed (field_count s) z.0 z.1) h) (of_both a.0 i.0 a.1 i.1 parts.0) parts.1
  each (Exp-F.Field p a x) none =
      let parts = none_in (judged s a.0).faults _ none in
      rule_there (judged s a.0).is _ _ (λ z h. chosen_there p x (struct_place z) h) (a.1 parts.0) parts.1
  each (Exp-F.Arrow p a x) none =
      let parts = none_in (judged s a.0).faults _ none in
      rule_there (judged s a.0).is _ _ (λ z h. chosen_there p x (struct_behind z) h) (a.1 parts.0) parts.1

  of_level : (x : Exp-F Exp) → Level x → Holds (roll-Exp x)
  of_level x h = subst (λ (j : Judged). j.faults ≡ [] → is_some j.is ≡ true) (sym (fold-roll-Exp Judged (exp_step s) x)) h

  pub operand_there : (a : Exp) → Holds a
  operand_there = ind-Exp Holds (λ x y is. subst (λ z. Holds (roll-Exp z)) is (of_level (tree y) (each y)))
