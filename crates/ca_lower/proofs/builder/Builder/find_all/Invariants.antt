use Rattle.std.proofs.Common.{◌≤◌, length}
use Rattle.ca_lower.specs.Acts.{FindsFrom}
use Rattle.ca_lower.proofs.builder.Builder.find_all.Given as goal

abbrev pub invariant-arguments : goal.invariant-arguments
invariant-arguments l = (l.left ≤ length l.es) × FindsFrom l.at l.fn.self l.self l.start.0 l.fn.next.0 l.free l.left l.es

abbrev pub decreases-arguments : goal.decreases-arguments
decreases-arguments l = l.left
