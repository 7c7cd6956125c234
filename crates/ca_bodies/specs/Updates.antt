-- Updates, by the type of the target and the operand's value.
use Rattle.std.specs.Prelude.{Bool, true, ◌&&◌, Option, Some}
use Rattle.ca_model.specs.declared.types.ObjectType.{ObjectType}
use Rattle.ca_model.specs.declared.types.Wanted.TheVariants.{OfType}
use Rattle.ca_model.specs.typing.Types.{int, same_object}
use Rattle.ca_model.specs.typing.Uses.{value_is_wanted}
use Rattle.ca_model.specs.typing.Values.{Typed_value}

abbrev pub is_allowed : Option ObjectType → Bool → Option Typed_value → Bool
is_allowed (Some t) true v = same_object t int && value_is_wanted (OfType (Some int)) v
is_allowed t is_typed v = true
