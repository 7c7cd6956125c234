use Rattle.std.proofs.Common.{◌≡◌, ◌++◌, drop, map}
use Rattle.ca_model.specs.typing.Structs.{field}
use Rattle.ca_operands.specs.Shown.{shown_field}
use Rattle.ca_types.proofs.structs.push_fields.Given as goal

abbrev pub invariant-loop-declarator : goal.invariant-loop-declarator
invariant-loop-declarator l = map shown_field l.fields.items ++ map (field l.scope l.fn.group.base) (drop l.declarator-index l.fn.group.declarators) ≡ map shown_field l.fn.fields.items ++ map (field l.scope l.fn.group.base) l.fn.group.declarators
