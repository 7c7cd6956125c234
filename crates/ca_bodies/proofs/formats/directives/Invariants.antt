use Rattle.std.proofs.Common.{◌≡◌, ◌≤◌, ◌+◌, length}
use Rattle.ca_model.specs.typing.Formats.{directives}
use Rattle.ca_bodies.proofs.formats.directives.Given as goal

abbrev pub invariant-bytes : goal.invariant-bytes
invariant-bytes l = (l.count + length l.rest ≤ length l.format) × (l.count + directives l.rest ≡ directives l.format)

abbrev pub decreases-bytes : goal.decreases-bytes
decreases-bytes l = length l.rest
