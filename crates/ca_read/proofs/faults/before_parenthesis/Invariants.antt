use Rattle.std.proofs.Common.{length}
use Rattle.ca_read.proofs.Parentheses.{FoundIn}
use Rattle.ca_read.proofs.faults.before_parenthesis.Given as goal

abbrev pub invariant-tokens : goal.invariant-tokens
invariant-tokens l = FoundIn l.tokens l.rest l.found

abbrev pub decreases-tokens : goal.decreases-tokens
decreases-tokens l = length l.rest
