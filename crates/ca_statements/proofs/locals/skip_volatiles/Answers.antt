use Rattle.std.proofs.Common.{length, ap, arith}
use Rattle.ca_statements.proofs.StatementSteps.{volatile_skipped}
use Rattle.ca_statements.proofs.locals.skip_volatiles.Goals as goal

pub volatiles-init : goal.volatiles-init
volatiles-init c = record { at = λ p n o d. d; shorter = omega arith }

pub volatiles-preserved : goal.volatiles-preserved
volatiles-preserved c = record {
  at = volatile_skipped _ c.volatiles.rest.now c.in-Some.after.now c.args.tokens.now c.in-Some.ensures c.volatiles.invariant.at;
  shorter = omega (arith, ap length c.in-Some.ensures.parts, c.volatiles.invariant.shorter);
}
