use Rattle.std.proofs.Common.{◌≡◌, drop}
use Rattle.ca_model.specs.typing.Signatures.{parameter_faults}
use Rattle.ca_operands.specs.Noted.{noted}
use Rattle.ca_types.proofs.signatures.note_parameters.Given as goal

abbrev pub invariant-loop-parameter : goal.invariant-loop-parameter
invariant-loop-parameter l = noted l.faults.first (parameter_faults l.scope (drop l.parameter-index l.parameters)) ≡ noted l.fn.faults.first (parameter_faults l.scope l.parameters)
