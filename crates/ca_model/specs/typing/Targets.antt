-- What is assigned to (C11 6.5.16).
use Rattle.std.specs.Prelude.{List, ◌++◌, Option, Some, None}
use Rattle.ca_tree.specs.declared.numbers.VarId.{VarId}
use Rattle.ca_tree.specs.declared.tree.Exp.{Exp}
use Rattle.ca_model.specs.declared.tree.Target.{Target}
use Rattle.ca_model.specs.declared.tree.Target.TheVariants as target
use Rattle.ca_model.specs.declared.types.TypeFault.{TypeFault}
use Rattle.ca_model.specs.declared.types.ObjectType.{ObjectType}
use Rattle.ca_model.specs.declared.types.Operand.{Operand}
use Rattle.ca_model.specs.declared.types.Operand.TheVariants as operand
use Rattle.ca_model.specs.typing.Types.{held}
use Rattle.ca_model.specs.typing.Values.{also}
use Rattle.ca_model.specs.typing.Scopes.{Scope}
use Rattle.ca_model.specs.typing.Expressions.{judged, no_place}

-- what is assigned to: its type, where that isn't refused, and where it is, where it isn't refused itself
pub record Aim : Type 0 where
  pub of : Option ObjectType
  pub at : Option Target

-- what holds a value can be assigned to: a whole struct can't
abbrev pub target_of : Operand → Option (ObjectType × Target)
target_of (operand.Local t x) = Some (t, target.Local x)
target_of (operand.Place t p) = also (held t) (λ v. Some (t, target.Place p))
target_of x = None

abbrev pub aim_of : Option (ObjectType × Target) → Aim
aim_of None = record { of = None; at = None }
aim_of (Some x) = record { of = Some x.0; at = Some x.1 }

abbrev pub aim : Scope → Exp → Aim
aim s a = aim_of (also (judged s a).is target_of)

abbrev pub aim_faults : Scope → Exp → List TypeFault
aim_faults s a = (judged s a).faults ++ no_place (judged s a) target_of

abbrev pub first_local : VarId
first_local = record { 0 = 0 }

abbrev pub target_at : Option Target → Target
target_at None = target.Local first_local
target_at (Some t) = t

abbrev pub local_at : Option Target → Option VarId
local_at (Some (target.Local x)) = Some x
local_at t = None
