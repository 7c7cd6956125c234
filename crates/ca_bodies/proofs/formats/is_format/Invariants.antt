use Rattle.std.proofs.Common.{◌≡◌, length}
use Rattle.ca_model.specs.typing.Formats.{is_format}
use Rattle.ca_bodies.proofs.formats.is_format.Given as goal

abbrev pub invariant-bytes : goal.invariant-bytes
invariant-bytes l = is_format l.rest ≡ is_format l.format

abbrev pub decreases-bytes : goal.decreases-bytes
decreases-bytes l = length l.rest
