use Rattle.std.proofs.Common.{arith}
use Rattle.std.proofs.lemmas.Result.{err_from_is_err_and}
use Rattle.ca_tree.specs.Counts.{one_more_global}
use Rattle.ca_grammar.specs.Goals.{Next_global}
use Rattle.ca_read.specs.Declaring.{totals_of}
use Rattle.ca_expressions.proofs.Following.{pass}
use Rattle.ca_read.proofs.DeclarationSteps.{more_globals_of}
use Rattle.ca_read.proofs.globals.globals.Goals as goal

pub returns-in_err-form-clause-reads : goal.returns-in_err-form-clause-reads
returns-in_err-form-clause-reads c =
    let p = err_from_is_err_and c.from_residual.result c.from_residual.ensures.1 in
    rw (p.1, p.2) (λ b. pass c.in_err-form.field-0.0 (λ r vs d. (c.declarators.invariant.at b).no r vs d) (c.in_err-form.ensures.reads b c.declarators.stars c.declarators.name))

pub returns-then-not-more-clause-reads : goal.returns-then-not-more-clause-reads
returns-then-not-more-clause-reads c =
    let one = rw c.if-not-more.true at c.in_ok-form.ensures.reads in
    rw (c.from_vec.ensures, c.in_ok-push.ensures.items, c.one_more_global-totals.ensures.count) (λ b. (c.declarators.invariant.at b).yes _ _ (one b c.declarators.stars c.declarators.name))

pub returns-in_err-stars-clause-reads : goal.returns-in_err-stars-clause-reads
returns-in_err-stars-clause-reads c =
    let p = err_from_is_err_and c.from_residual-in_err-stars.result c.from_residual-in_err-stars.ensures.1 in
    let one = rw c.if-not-more.false at c.in_ok-form.ensures.reads in
    rw (p.1, p.2) (λ b. pass c.in_err-stars.field-0.0 (λ r vs d. (c.declarators.invariant.at b).no r vs ((one b c.declarators.stars c.declarators.name).no r vs d))
    (c.in_err-stars.ensures.reads (Next_global b (one_more_global (totals_of c.declarators.totals))) _))

pub declarators-preserved : goal.declarators-preserved
declarators-preserved c =
    let one = rw c.if-not-more.false at c.in_ok-form.ensures.reads in
    record {
      at = λ b. more_globals_of b c.args.stars c.declarators.stars c.in_ok-stars.field-0-0 c.args.name c.declarators.name c.in_ok-stars.field-0-1 (totals_of c.args.totals) (totals_of c.declarators.totals) (totals_of c.one_more_global-totals.result)
          c.declarators.all.items _ _ c.declarators.rest.now c.in_ok-form.after.now c.in_ok-stars.field-0-2.now c.args.tokens.now c.one_more_global-totals.ensures.count c.in_ok-push.ensures.items (c.declarators.invariant.at b)
          (one b c.declarators.stars c.declarators.name) c.in_ok-stars.ensures.reads;
      shorter = omega (arith, c.in_ok-stars.ensures.shorter, c.in_ok-form.ensures.shorter, c.declarators.invariant.shorter);
      within = c.one_more_global-totals.ensures.within;
    }
