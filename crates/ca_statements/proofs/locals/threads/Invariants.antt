use Rattle.std.proofs.Common.{◌<◌, ◌≤◌, length}
use Rattle.ca_statements.proofs.StatementSteps.{AtThreads}
use Rattle.ca_statements.proofs.locals.threads.Given as goal

abbrev pub invariant-threads : goal.invariant-threads
invariant-threads l = record {
  at : AtThreads l.fn.pos l.items l.all.items l.number l.rest l.tokens;
  room : l.number ≤ 65536;
  shorter : length l.rest < length l.tokens;
}

abbrev pub decreases-threads : goal.decreases-threads
decreases-threads l = length l.rest
