use Rattle.std.proofs.Common.{◌<◌, ◌≤◌, subst}
use Rattle.std.proofs.lemmas.Result.{err_from_is_err_and}
use Rattle.ca_grammar.specs.Reads.{takes, overs, passes, calls, fails, gives}
use Rattle.ca_expressions.proofs.Following.{pass}
use Rattle.ca_read.proofs.DeclarationSteps.{star_misses, star_there}
use Rattle.ca_read.proofs.tops.behind_base.Goals as goal

pub returns-in_err-stars-clause-reads : goal.returns-in_err-stars-clause-reads
returns-in_err-stars-clause-reads c =
    let p = err_from_is_err_and c.from_residual.result c.from_residual.ensures.1 in
    rw (p.1, p.2) (c.in_err-stars.ensures.reads _ _)

pub returns-in_err-all-clause-reads : goal.returns-in_err-all-clause-reads
returns-in_err-all-clause-reads c =
    let p = err_from_is_err_and c.from_residual-in_err-all.result c.from_residual-in_err-all.ensures.1 in
    rw (p.1, p.2) (pass c.in_err-all.field-0.0 (λ r vs d. c.in_ok-stars.ensures.reads _ _ _ (passes c.in_default.ensures (fails d))) (c.in_err-all.ensures.reads c.args.base))

pub returns-in_default-clause-reads : goal.returns-in_default-clause-reads
returns-in_default-clause-reads c = c.in_ok-stars.ensures.reads _ _ _ (passes c.in_default.ensures (calls (c.in_ok-all.ensures.reads c.args.base) gives))

pub returns-then-missing-gt0-clause-reads : goal.returns-then-missing-gt0-clause-reads
returns-then-missing-gt0-clause-reads c = c.in_ok-stars.ensures.reads _ _ _ (overs c.in-Some.ensures (star_misses _ (subst (λ n. 0 < n) c.missing.ensures c.if-missing-gt0.true)))

pub returns-in_err-function-clause-reads : goal.returns-in_err-function-clause-reads
returns-in_err-function-clause-reads c =
    let p = err_from_is_err_and c.from_residual-in_err-function.result c.from_residual-in_err-function.ensures.1 in
    let fits = star_there _ (subst (λ n. n ≤ 0) c.missing.ensures c.if-missing-gt0.false) in
    rw (p.1, p.2) (pass c.in_err-function.field-0.0 (λ r vs d. c.in_ok-stars.ensures.reads _ _ _ (takes c.in-Some.ensures fits (fails d))) c.in_err-function.ensures.reads)

pub returns-clause-reads : goal.returns-clause-reads
returns-clause-reads c =
    let fits = star_there _ (subst (λ n. n ≤ 0) c.missing.ensures c.if-missing-gt0.false) in
    c.in_ok-stars.ensures.reads _ _ _ (takes c.in-Some.ensures fits (calls c.in_ok-function.ensures.reads gives))
