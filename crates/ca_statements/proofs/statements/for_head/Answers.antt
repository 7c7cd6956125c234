use Rattle.std.proofs.Common.{refl, add-one}
use Rattle.std.proofs.lemmas.Result.{err_from_is_err_and}
use Rattle.ca_grammar.specs.Reads.{wants, misses, calls, fails}
use Rattle.ca_expressions.proofs.Following.{pass}
use Rattle.ca_statements.proofs.statements.for_head.Goals as goal

pub returns-in_default-clause-reads : goal.returns-in_default-clause-reads
returns-in_default-clause-reads c = λ in_loop d. misses c.in_default.ensures

pub returns-in_err-first-clause-reads : goal.returns-in_err-first-clause-reads
returns-in_err-first-clause-reads c =
    let p = err_from_is_err_and c.from_residual.result c.from_residual.ensures.1 in
    rw (p.1, p.2) (λ in_loop d. pass c.in_err-first.field-0.0 (λ r vs y. wants c.in-Some.ensures refl (fails y)) c.in_err-first.ensures.reads)

pub returns-in_err-item-clause-reads : goal.returns-in_err-item-clause-reads
returns-in_err-item-clause-reads c =
    let p = err_from_is_err_and c.from_residual-in_err-item.result c.from_residual-in_err-item.ensures.1 in
    rw (p.1, p.2) (λ in_loop d. pass c.in_err-item.field-0.0 (λ r vs y. wants c.in-Some.ensures refl (calls c.in_ok-first.ensures.reads (fails y))) c.in_err-item.ensures.reads)

pub returns-in_err-step-clause-reads : goal.returns-in_err-step-clause-reads
returns-in_err-step-clause-reads c =
    let p = err_from_is_err_and c.from_residual-in_err-step.result c.from_residual-in_err-step.ensures.1 in
    rw (p.1, p.2) (λ in_loop d. pass c.in_err-step.field-0.0
    (λ r vs y. wants c.in-Some.ensures refl (calls c.in_ok-first.ensures.reads (calls c.in_ok-item.ensures.reads (fails (rw (add-one c.in_ok-first.before) at y))))) c.in_err-step.ensures.reads)

pub returns-clause-reads : goal.returns-clause-reads
returns-clause-reads c = λ in_loop d o k. wants c.in-Some.ensures refl (calls c.in_ok-first.ensures.reads (calls c.in_ok-item.ensures.reads (calls (rw (add-one c.in_ok-first.before) at c.in_ok-step.ensures.reads)
    (rw (c.in_ok-new.ensures, c.into_inner.ensures) at k))))
