-- Expressions in which nothing is wrong can be printed, where no call of the library has a meaning as a name.
use Rattle.std.proofs.Common.{◌≡◌, ℕ, Bool, true, false, not, ◌&&◌, List, [], ◌∷◌, ◌++◌, Option, Some, None, refl, sym, subst}
use Rattle.std.specs.Prelude.{if◌then◌else◌}
use Rattle.std.specs.List.{list_all}
use Rattle.ca_tree.specs.declared.text.Pos.{Pos}
use Rattle.ca_tree.specs.declared.tree.Name.{Name}
use Rattle.ca_tree.specs.declared.tree.Exp.{Exp, roll-Exp, ind-Exp, map-Exp, fold-roll-Exp}
use Rattle.ca_tree.specs.declared.tree.Exp.TheOpen.{Exp-F}
use Rattle.ca_tree.specs.Names.{is_library_word}
use Rattle.ca_model.specs.declared.types.TypeFault.{TypeFault}
use Rattle.ca_model.specs.declared.types.Meaning.{Meaning}
use Rattle.ca_model.specs.declared.types.ObjectType.{ObjectType}
use Rattle.ca_model.specs.declared.types.Operand.{Operand}
use Rattle.ca_model.specs.declared.types.Operand.TheVariants as operand
use Rattle.ca_model.specs.declared.types.Wanted.{Wanted}
use Rattle.ca_model.specs.declared.types.Wanted.TheVariants.{OfType}
use Rattle.ca_model.specs.typing.Faults.{if_none, given}
use Rattle.ca_model.specs.typing.Scopes.{Scope, meaning}
use Rattle.ca_model.specs.typing.Places.{struct_place}
use Rattle.ca_model.specs.typing.Expressions.{Judged, exp_step, judged, not_chosen, no_place}
use Rattle.ca_model.specs.typing.Uses.{faults_in, argument_faults, each_faults}
use Rattle.ca_model.specs.typing.Targets.{target_of, aim_faults}
use Rattle.ca_model.specs.Printable.{Form, form_step, form, exp_prints, target_prints}
use Rattle.ca_model.proofs.NoFaults.{none_left}
use Rattle.ca_model.proofs.EmptyFaults.{none_in}

-- no call of the library is visible as something else
abbrev pub IsClean : Scope → Type 0
IsClean s = (x : List ℕ) → is_library_word x ≡ true → meaning s x ≡ None

pub both_true : (a b : Bool) → a ≡ true → b ≡ true → (a && b) ≡ true
both_true true b h k = k
both_true false b h k = absurd cc

abbrev is_value : Option Operand → Bool
is_value (Some (operand.Value t x)) = true
is_value o = false

name_prints : (b : Bool) (x : TypeFault) (o : Option Meaning) → (b ≡ true → o ≡ None) → if_none x o ≡ [] → not b ≡ true
name_prints false x o clean h = refl
name_prints true x None clean h = absurd cc
name_prints true x (Some m) clean h = let e : Some m ≡ None = clean refl in absurd cc

field_prints : (s : Scope) (p : Pos) (n : Name) (b : Bool) (o : Option Operand) → (b ≡ true → is_value o ≡ true) → given o (λ x. not_chosen s p n (struct_place x)) ≡ [] → not b ≡ true
field_prints s p n false o value h = refl
field_prints s p n true None value h = let e : false ≡ true = value refl in absurd cc
field_prints s p n true (Some (operand.Value t x)) value h = absurd cc
field_prints s p n true (Some (operand.Local t x)) value h = let e : false ≡ true = value refl in absurd cc
field_prints s p n true (Some (operand.Place t x)) value h = let e : false ≡ true = value refl in absurd cc
field_prints s p n true (Some operand.Name) value h = let e : false ≡ true = value refl in absurd cc

-- what an expression is, beside its form
record Agrees (j : Judged) (f : Form) : Type 0 where
  prints : j.faults ≡ [] → f.prints ≡ true
  number : f.is_number ≡ true → is_value j.is ≡ true
  binary : f.is_binary ≡ true → j.may_be_place ≡ false

module _ (s : Scope) (clean : IsClean s) where
  abbrev Holds : Exp → Type 0
  Holds a = Agrees (judged s a) (form a)

  abbrev Such : Type 0
  Such = (a : Exp) × Holds a

  abbrev tree : Exp-F Such → Exp-F Exp
  tree x = map-Exp Such Exp (λ a. a.0) x

  abbrev Level : Exp-F Exp → Type 0
  Level x = Agrees (exp_step s (map-Exp Exp Judged (judged s) x)) (form_step (map-Exp Exp Form form x))

  both_print : (a b : Such) (fs : List TypeFault) → ((judged s a.0).faults ++ (judged s b.0).faults) ++ fs ≡ [] → ((form a.0).prints && (form b.0).prints) ≡ true
  both_print a b fs h =
      let parts = none_in (judged s a.0).faults (judged s b.0).faults (none_left ((judged s a.0).faults ++ (judged s b.0).faults) fs h) in
      both_true (form a.0).prints (form b.0).prints (a.1.prints parts.0) (b.1.prints parts.1)

  each : (x : Exp-F Such) → Level (tree x)
  each (Exp-F.Number p k) = record { prints = λ h. refl; number = λ h. refl; binary = λ h. absurd cc }
  each (Exp-F.Null p) = record { prints = λ h. refl; number = λ h. absurd cc; binary = λ h. absurd cc }
  each (Exp-F.Name n) = record { prints = name_prints (is_library_word n.text) _ (meaning s n.text) (clean n.text); number = λ h. absurd cc; binary = λ h. absurd cc }
  each (Exp-F.Unary p o a) = record { prints = λ h. a.1.prints (none_left (judged s a.0).faults _ h); number = λ h. absurd cc; binary = λ h. absurd cc }
  each (Exp-F.Binary p o a b) = record { prints = both_print a b _; number = λ h. absurd cc; binary = λ h. refl }
  each (Exp-F.Index p a i) = record { prints = both_print a i _; number = λ h. absurd cc; binary = λ h. absurd cc }
  each (Exp-F.Field p a n) = record {
    prints = λ h.
        let parts = none_in (judged s a.0).faults (given (judged s a.0).is (λ x. not_chosen s p n (struct_place x))) h in
        both_true (form a.0).prints (not (form a.0).is_number) (a.1.prints parts.0) (field_prints s p n (form a.0).is_number (judged s a.0).is a.1.number parts.1);
    number = λ h. absurd cc;
    binary = λ h. absurd cc;
  }
  each (Exp-F.Arrow p a n) = record { prints = λ h. a.1.prints (none_left (judged s a.0).faults _ h); number = λ h. absurd cc; binary = λ h. absurd cc }

  of_level : (x : Exp-F Exp) → Level x → Holds (roll-Exp x)
  of_level x h =
      subst (λ (j : Judged). Agrees j (form (roll-Exp x))) (sym (fold-roll-Exp Judged (exp_step s) x))
      (subst (λ f. Agrees (exp_step s (map-Exp Exp Judged (judged s) x)) f) (sym (fold-roll-Exp Form form_step x)) h)

  agrees : (a : Exp) → Holds a
  agrees = ind-Exp Holds (λ x y is. subst (λ z. Holds (roll-Exp z)) is (of_level (tree y) (each y)))

  pub prints_judged : (a : Exp) → (judged s a).faults ≡ [] → exp_prints a ≡ true
  prints_judged a h = (agrees a).prints h

  -- a value that goes somewhere
  pub prints_in : (w : Wanted) (a : Exp) → faults_in s w a ≡ [] → exp_prints a ≡ true
  prints_in w a h = prints_judged a (none_left (judged s a).faults _ h)

  pub arguments_print : (ts : List (Option ObjectType)) (as' : List Exp) → argument_faults s ts as' ≡ [] → list_all exp_prints as' ≡ true
  arguments_print ts [] h = refl
  arguments_print [] (a ∷ more) h =
      let parts = none_in _ (argument_faults s [] more) h in
      both_true (exp_prints a) (list_all exp_prints more) (prints_in (OfType None) a parts.0) (arguments_print [] more parts.1)
  arguments_print (t ∷ ts) (a ∷ more) h =
      let parts = none_in _ (argument_faults s ts more) h in
      both_true (exp_prints a) (list_all exp_prints more) (prints_in (OfType t) a parts.0) (arguments_print ts more parts.1)

  pub each_prints : (t : ObjectType) (as' : List Exp) → each_faults s t as' ≡ [] → list_all exp_prints as' ≡ true
  each_prints t [] h = refl
  each_prints t (a ∷ more) h =
      let parts = none_in _ (each_faults s t more) h in
      both_true (exp_prints a) (list_all exp_prints more) (prints_in (OfType (Some t)) a parts.0) (each_prints t more parts.1)

  no_binary : (b place : Bool) (fs : List TypeFault) (x : TypeFault) → (b ≡ true → place ≡ false) → (if place then fs else x ∷ []) ≡ [] → not b ≡ true
  no_binary false place fs x h none = refl
  no_binary true true fs x h none = let e : true ≡ false = h refl in absurd cc
  no_binary true false fs x h none = absurd cc

  -- a target
  pub aim_prints : (a : Exp) → aim_faults s a ≡ [] → target_prints a ≡ true
  aim_prints a h =
      let parts = none_in (judged s a).faults (no_place (judged s a) target_of) h in
      both_true (exp_prints a) (not (form a).is_binary) (prints_judged a parts.0) (no_binary (form a).is_binary (judged s a).may_be_place _ _ (agrees a).binary parts.1)
