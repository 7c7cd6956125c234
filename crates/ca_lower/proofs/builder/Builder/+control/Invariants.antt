use Rattle.std.proofs.Common.{◌≤◌, length}
use Rattle.ca_lower.specs.Control.{RunsFrom}
use Rattle.ca_lower.proofs.builder.Builder.+control.Given as goal

abbrev pub invariant-run_all-statements : goal.invariant-run_all-statements
invariant-run_all-statements l = (l.left ≤ length l.ss) × RunsFrom l.scope l.fn.self l.self l.start.0 l.fn.ways l.left l.ss

abbrev pub decreases-run_all-statements : goal.decreases-run_all-statements
decreases-run_all-statements l = l.left
