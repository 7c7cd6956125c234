use Rattle.std.proofs.Common.{◌≡◌, ◌++◌, drop, map}
use Rattle.ca_model.specs.typing.Signatures.{parameter_type}
use Rattle.ca_types.proofs.signatures.signature.Given as goal

abbrev pub invariant-loop-parameter : goal.invariant-loop-parameter
invariant-loop-parameter l = l.parameters.items ++ map (parameter_type l.scope) (drop l.parameter-index l.fn.of.parameters) ≡ map (parameter_type l.scope) l.fn.of.parameters
