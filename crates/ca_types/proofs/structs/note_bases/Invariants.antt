use Rattle.std.proofs.Common.{◌≡◌, drop}
use Rattle.ca_model.specs.typing.Structs.{base_faults}
use Rattle.ca_operands.specs.Noted.{noted}
use Rattle.ca_types.proofs.structs.note_bases.Given as goal

abbrev pub invariant-loop-group : goal.invariant-loop-group
invariant-loop-group l = noted l.faults.first (base_faults l.scope (drop l.group-index l.groups)) ≡ noted l.fn.faults.first (base_faults l.scope l.groups)
