-- Values that go somewhere: into objects, arguments, results and conditions. Where an expression is refused, 0 stands for it.
use Rattle.std.specs.Prelude.{pos, Bool, true, false, List, [], ◌∷◌, ◌++◌, Option, Some, None}
use Rattle.ca_tree.specs.declared.tree.Exp.{Exp}
use Rattle.ca_model.specs.declared.tree.Exp.{Exp as TypedExp}
use Rattle.ca_model.specs.declared.tree.Exp.TheVariants as e
use Rattle.ca_model.specs.declared.types.TypeFault.{TypeFault}
use Rattle.ca_model.specs.declared.types.ObjectType.{ObjectType}
use Rattle.ca_model.specs.declared.types.TypeKind.TheVariants as wrong
use Rattle.ca_model.specs.declared.types.Wanted.{Wanted}
use Rattle.ca_model.specs.declared.types.Wanted.TheVariants.{Scalar, OfType}
use Rattle.ca_model.specs.typing.Faults.{fault, unless, given}
use Rattle.ca_model.specs.typing.Values.{Typed_value, also, value_of, is_scalar, fits}
use Rattle.ca_model.specs.typing.Scopes.{Scope}
use Rattle.ca_model.specs.typing.Expressions.{judged}

abbrev pub is_wanted : Wanted → Typed_value → Bool
is_wanted Scalar x = is_scalar x.0
is_wanted (OfType None) x = true
is_wanted (OfType (Some t)) x = fits t x

-- a whole struct, a mutex and a function are no values
abbrev pub value_is_wanted : Wanted → Option Typed_value → Bool
value_is_wanted (OfType None) x = true
value_is_wanted w None = false
value_is_wanted w (Some x) = is_wanted w x

abbrev pub value_or_zero : Option Typed_value → TypedExp
value_or_zero None = e.Num (pos 0)
value_or_zero (Some x) = x.1

abbrev pub value_in : Scope → Exp → TypedExp
value_in s a = value_or_zero (also (judged s a).is value_of)

abbrev pub faults_in : Scope → Wanted → Exp → List TypeFault
faults_in s w a = (judged s a).faults ++ given (judged s a).is (λ x. unless (value_is_wanted w (value_of x)) (fault (judged s a).pos wrong.Mismatch))

abbrev pub values_in : Scope → List Exp → List TypedExp
values_in s [] = []
values_in s (a ∷ more) = value_in s a ∷ values_in s more

-- arguments; those that no parameter stands for go anywhere
abbrev pub argument_faults : Scope → List (Option ObjectType) → List Exp → List TypeFault
argument_faults s ts [] = []
argument_faults s [] (a ∷ more) = faults_in s (OfType None) a ++ argument_faults s [] more
argument_faults s (t ∷ ts) (a ∷ more) = faults_in s (OfType t) a ++ argument_faults s ts more

abbrev pub each_faults : Scope → ObjectType → List Exp → List TypeFault
each_faults s t [] = []
each_faults s t (a ∷ more) = faults_in s (OfType (Some t)) a ++ each_faults s t more
