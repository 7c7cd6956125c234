use Rattle.std.proofs.Common.{◌≡◌, drop}
use Rattle.ca_model.specs.typing.Signatures.{all_named}
use Rattle.ca_types.proofs.signatures.all_named.Given as goal

abbrev pub invariant-loop-parameter : goal.invariant-loop-parameter
invariant-loop-parameter l = all_named (drop l.parameter-index l.parameters) ≡ all_named l.parameters
