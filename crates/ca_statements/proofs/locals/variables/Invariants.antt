use Rattle.std.proofs.Common.{◌≡◌, ◌<◌, ◌≤◌, length}
use Rattle.ca_statements.proofs.StatementSteps.{AtDeclarators}
use Rattle.ca_statements.proofs.locals.variables.Given as goal

abbrev pub invariant-declarators : goal.invariant-declarators
invariant-declarators l = record {
  at : AtDeclarators l.fn.base l.fn.pos l.items l.all.items l.number l.rest l.tokens;
  same : l.base ≡ l.fn.base;
  room : l.number ≤ 65536;
  shorter : length l.rest < length l.tokens;
}

abbrev pub decreases-declarators : goal.decreases-declarators
decreases-declarators l = length l.rest
