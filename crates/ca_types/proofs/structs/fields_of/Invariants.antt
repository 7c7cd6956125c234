use Rattle.std.proofs.Common.{◌≡◌, ◌++◌, drop, map}
use Rattle.ca_model.specs.typing.Structs.{fields}
use Rattle.ca_operands.specs.Shown.{shown_field}
use Rattle.ca_types.proofs.structs.fields_of.Given as goal

abbrev pub invariant-loop-group : goal.invariant-loop-group
invariant-loop-group l = map shown_field l.fields.items ++ fields l.scope (drop l.group-index l.groups) ≡ fields l.scope l.groups
