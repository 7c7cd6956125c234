use Rattle.std.proofs.Common.{◌≡◌, ◌+◌, suc, arith}
use Rattle.std.proofs.lemmas.Result.{err_from_is_err_and}
use Rattle.ca_expressions.proofs.Following.{pass}
use Rattle.ca_read.proofs.DeclarationSteps.{more_parameters_of}
use Rattle.ca_read.proofs.functions.behind_type.Goals as goal

pub returns-in_err-name-clause-reads : goal.returns-in_err-name-clause-reads
returns-in_err-name-clause-reads c =
    let p = err_from_is_err_and c.from_residual.result c.from_residual.ensures.1 in
    rw (p.1, p.2) (pass c.in_err-name.field-0.0 (λ r vs d. c.parameters.invariant.at.no r vs d) (c.in_err-name.ensures.reads c.parameters.of))

pub returns-then-not-more-clause-reads : goal.returns-then-not-more-clause-reads
returns-then-not-more-clause-reads c =
    let one = rw c.if-not-more.true at c.in_ok-name.ensures.reads in
    rw (c.from_vec.ensures, c.in_ok-push.ensures.items) (c.parameters.invariant.at.yes _ _ (one c.parameters.of))

pub returns-in_err-of-clause-reads : goal.returns-in_err-of-clause-reads
returns-in_err-of-clause-reads c =
    let p = err_from_is_err_and c.from_residual-in_err-of.result c.from_residual-in_err-of.ensures.1 in
    let one = rw c.if-not-more.false at c.in_ok-name.ensures.reads in
    rw (p.1, p.2) (pass c.in_err-of.field-0.0 (λ r vs d. c.parameters.invariant.at.no r vs ((one c.parameters.of).no r vs d)) (c.in_err-of.ensures.reads (suc c.parameters.before)))

pub parameters-preserved : goal.parameters-preserved
parameters-preserved c =
    let one = rw c.if-not-more.false at c.in_ok-name.ensures.reads in
    let same : c.parameters.before + 1 ≡ suc c.parameters.before = omega arith in
    record {
      at = more_parameters_of c.args.of c.parameters.of c.in_ok-of.field-0-0 c.parameters.before (c.parameters.before + 1) c.parameters.all.items _ _ c.parameters.rest.now c.in_ok-name.after.now c.in_ok-of.field-0-1.now c.args.tokens.now
          same c.in_ok-push.ensures.items c.parameters.invariant.at (one c.parameters.of) (c.in_ok-of.ensures.reads (suc c.parameters.before));
      shorter = omega (arith, c.in_ok-of.ensures.shorter, c.in_ok-name.ensures.shorter, c.parameters.invariant.shorter);
      room = omega (arith, c.in_ok-name.ensures.room);
    }
