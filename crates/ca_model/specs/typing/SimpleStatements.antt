-- Simple statements: the item that each makes, and what is wrong in it (C11 6.8.3).
use Rattle.std.specs.Prelude.{Bool, true, ◌&&◌, List, ◌++◌, Option, Some, None}
use Rattle.ca_tree.specs.declared.text.Pos.{Pos}
use Rattle.ca_tree.specs.declared.tree.UpdateOp.{UpdateOp}
use Rattle.ca_tree.specs.declared.tree.UpdateOp.TheVariants as update
use Rattle.ca_tree.specs.declared.tree.Simple.{Simple}
use Rattle.ca_tree.specs.declared.tree.Simple.TheVariants as simple
use Rattle.ca_model.specs.declared.tree.BinOp.{BinOp}
use Rattle.ca_model.specs.declared.tree.BinOp.TheVariants as typed
use Rattle.ca_model.specs.declared.tree.Target.{Target}
use Rattle.ca_model.specs.declared.tree.Act.{Act}
use Rattle.ca_model.specs.declared.tree.Act.TheVariants as act
use Rattle.ca_model.specs.declared.types.TypeFault.{TypeFault}
use Rattle.ca_model.specs.declared.types.ObjectType.{ObjectType}
use Rattle.ca_model.specs.declared.types.Operand.{Operand}
use Rattle.ca_model.specs.declared.types.TypeKind.TheVariants as wrong
use Rattle.ca_model.specs.declared.types.Wanted.TheVariants.{OfType}
use Rattle.ca_model.specs.typing.Faults.{fault, unless}
use Rattle.ca_model.specs.typing.Types.{int, same_object}
use Rattle.ca_model.specs.typing.Values.{also, value_of}
use Rattle.ca_model.specs.typing.Scopes.{Context}
use Rattle.ca_model.specs.typing.Expressions.{judged}
use Rattle.ca_model.specs.typing.Uses.{value_is_wanted, value_in}
use Rattle.ca_model.specs.typing.Targets.{target_of, aim, aim_faults, target_at}
use Rattle.ca_model.specs.typing.Calls.{call_faults, call_act}
use Rattle.ca_model.specs.typing.RightSides.{right_faults, set_act}
use Rattle.ca_model.specs.typing.LibraryCalls.{library_faults, library_act}

abbrev pub binary_of : UpdateOp → BinOp
binary_of update.Add = typed.Add
binary_of update.Sub = typed.Sub
binary_of update.Mul = typed.Mul
binary_of update.Div = typed.Div
binary_of update.Rem = typed.Rem

-- the target and the operand of an update are `int`; nothing is found where either is refused, or the target is no place
abbrev pub update_allowed : Option (ObjectType × Target) → Option Operand → Bool
update_allowed (Some t) (Some x) = same_object t.0 int && value_is_wanted (OfType (Some int)) (value_of x)
update_allowed t x = true

-- a simple statement that begins at p
abbrev pub simple_faults : Context → Pos → Simple → List TypeFault
simple_faults k p (simple.Set a r) = aim_faults k.scope a ++ right_faults k (aim k.scope a) r
simple_faults k p (simple.Update a o b) = aim_faults k.scope a ++ (judged k.scope b).faults ++ unless (update_allowed (also (judged k.scope a).is target_of) (judged k.scope b).is) (fault p wrong.Mismatch)
simple_faults k p (simple.Call c) = call_faults k None c
simple_faults k p (simple.Library c) = library_faults k p c

abbrev pub simple_act : Context → Simple → Act
simple_act k (simple.Set a r) = set_act k (aim k.scope a) r
simple_act k (simple.Update a o b) = act.Update (target_at (aim k.scope a).at) (binary_of o) (value_in k.scope b)
simple_act k (simple.Call c) = call_act k None c
simple_act k (simple.Library c) = library_act k c
