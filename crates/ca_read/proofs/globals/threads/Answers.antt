use Rattle.std.proofs.Common.{arith}
use Rattle.std.proofs.lemmas.Result.{err_from_is_err_and}
use Rattle.ca_read.specs.Declaring.{totals_of}
use Rattle.ca_expressions.proofs.Following.{pass}
use Rattle.ca_read.proofs.DeclarationSteps.{more_threads}
use Rattle.ca_read.proofs.globals.threads.Goals as goal

pub returns-in_err-declarator-clause-reads : goal.returns-in_err-declarator-clause-reads
returns-in_err-declarator-clause-reads c =
    let p = err_from_is_err_and c.from_residual.result c.from_residual.ensures.1 in
    rw (p.1, p.2) (pass c.in_err-declarator.field-0.0 (λ r vs d. c.declarators.invariant.at.no r vs d) c.in_err-declarator.ensures.reads)

pub declarators-preserved : goal.declarators-preserved
declarators-preserved c = record {
  at = more_threads (totals_of c.args.totals) (totals_of c.declarators.totals) (totals_of c.one_more_global-totals.result) c.declarators.all.items _ c.in_ok-declarator.declarator c.declarators.rest.now
      c.in_ok-declarator.after.now c.args.tokens.now c.one_more_global-totals.ensures.count c.in_ok-push.ensures.items c.declarators.invariant.at (rw c.if-not-more.false at c.in_ok-declarator.ensures.reads);
  shorter = omega (arith, c.in_ok-declarator.ensures.shorter, c.declarators.invariant.shorter);
  within = c.one_more_global-totals.ensures.within;
}
