use Rattle.std.proofs.Common.{◌≡◌, length}
use Rattle.ca_model.specs.typing.Signatures.{all_same}
use Rattle.ca_types.proofs.signatures.all_same.Given as goal

abbrev pub invariant-types : goal.invariant-types
invariant-types l = all_same l.rest l.others ≡ all_same l.a l.b

abbrev pub decreases-types : goal.decreases-types
decreases-types l = length l.rest
