use Rattle.std.proofs.Common.{◌≤◌, length}
use Rattle.ca_statements.specs.StatementReading.{SkipsVolatiles}
use Rattle.ca_statements.proofs.locals.skip_volatiles.Given as goal

abbrev pub invariant-volatiles : goal.invariant-volatiles
invariant-volatiles l = record {
  at : SkipsVolatiles l.tokens l.rest;
  shorter : length l.rest ≤ length l.tokens;
}

abbrev pub decreases-volatiles : goal.decreases-volatiles
decreases-volatiles l = length l.rest
