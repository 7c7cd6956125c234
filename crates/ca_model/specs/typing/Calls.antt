-- Calls of functions of the source (C11 6.5.2.2).
use Rattle.std.specs.Prelude.{ℕ, Bool, true, false, not, ◌&&◌, ◌==◌, List, [], ◌++◌, length, Option, Some, None, codes}
use Rattle.std.specs.Str.{bytes_eq}
use Rattle.ca_tree.specs.declared.numbers.VarId.{VarId}
use Rattle.ca_tree.specs.declared.tree.Call.{Call}
use Rattle.ca_model.specs.declared.tree.Exp.TheVariants as e
use Rattle.ca_model.specs.declared.tree.Target.{Target}
use Rattle.ca_model.specs.declared.tree.Target.TheVariants as target
use Rattle.ca_model.specs.declared.tree.Act.{Act}
use Rattle.ca_model.specs.declared.tree.Act.TheVariants as act
use Rattle.ca_model.specs.declared.types.TypeFault.{TypeFault}
use Rattle.ca_model.specs.declared.types.ObjectType.{ObjectType}
use Rattle.ca_model.specs.declared.types.ValueType.{ValueType}
use Rattle.ca_model.specs.declared.types.Meaning.{Meaning}
use Rattle.ca_model.specs.declared.types.Meaning.TheVariants as means
use Rattle.ca_model.specs.declared.types.TypeKind.TheVariants as wrong
use Rattle.ca_model.specs.typing.Faults.{fault, if_none, unless, given}
use Rattle.ca_model.specs.typing.Types.{held, is_void}
use Rattle.ca_model.specs.typing.Values.{also, goes_into}
use Rattle.ca_model.specs.typing.Scopes.{Signature, Context, meaning, function_id, function_at}
use Rattle.ca_model.specs.typing.Uses.{values_in, argument_faults}
use Rattle.ca_model.specs.typing.Targets.{Aim}

abbrev pub main_name : List ℕ
main_name = codes "main"

abbrev pub signature_of : Context → Option Meaning → Option Signature
signature_of k (Some (means.Function i)) = also (function_at k i) (λ f. Some f.first)
signature_of k m = None

abbrev pub parameters_of : Option Signature → List (Option ObjectType)
parameters_of None = []
parameters_of (Some g) = g.parameters

-- a result of a type goes into an object of a type; a refused type goes anywhere
abbrev pub value_goes_into : ObjectType → Option ValueType → Bool
value_goes_into t None = false
value_goes_into t (Some v) = goes_into (held t) v e.Null

abbrev pub result_goes_into : Option ObjectType → Option ObjectType → Bool
result_goes_into r None = true
result_goes_into None t = true
result_goes_into (Some r) (Some t) = value_goes_into t (held r)

abbrev pub is_no_void : Option ObjectType → Bool
is_no_void None = true
is_no_void (Some t) = not (is_void t)

abbrev pub is_local : Option Target → Bool
is_local (Some (target.Place p)) = false
is_local t = true

-- the result of a call is dropped, or goes into a local
abbrev pub takes_result : Option Aim → Signature → Bool
takes_result None g = true
takes_result (Some a) g = is_no_void g.result && (is_local a.at && result_goes_into g.result a.of)

abbrev pub is_callable : Option Aim → List ℕ → ℕ → Option Signature → Bool
is_callable a n count None = false
is_callable a n count (Some g) = not (bytes_eq n main_name) && (count == length g.parameters && takes_result a g)

abbrev pub known_call_faults : Option Aim → Call → Option Signature → List TypeFault
known_call_faults a c g = unless (is_callable a c.name.text (length c.arguments) g) (fault c.name.pos wrong.Mismatch)

abbrev pub call_faults : Context → Option Aim → Call → List TypeFault
call_faults k a c =
    argument_faults k.scope (parameters_of (signature_of k (meaning k.scope c.name.text))) c.arguments
    ++ if_none (fault c.name.pos wrong.Unknown) (meaning k.scope c.name.text)
    ++ given (meaning k.scope c.name.text) (λ m. known_call_faults a c (signature_of k (Some m)))

abbrev pub call_act : Context → Option VarId → Call → Act
call_act k x c = act.Call x (function_id k c.name.text) (values_in k.scope c.arguments)
