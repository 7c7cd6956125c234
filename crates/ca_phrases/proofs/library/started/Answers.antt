use Rattle.std.proofs.Common.{refl}
use Rattle.std.proofs.lemmas.Result.{err_from_is_err_and}
use Rattle.ca_grammar.specs.Reads.{wants, misses, gives, calls, fails}
use Rattle.ca_expressions.proofs.Following.{pass}
use Rattle.ca_phrases.proofs.library.started.Goals as goal

pub returns-in_err-function-clause-reads : goal.returns-in_err-function-clause-reads
returns-in_err-function-clause-reads c =
    let p = err_from_is_err_and c.from_residual.result c.from_residual.ensures.1 in
    rw (p.1, p.2) (λ cs q. c.in_err-function.ensures.reads _ _)

pub returns-in_default-clause-reads : goal.returns-in_default-clause-reads
returns-in_default-clause-reads c = λ cs q. c.in_ok-function.ensures.reads _ _ _ (misses c.in_default.ensures)

pub returns-in_err-argument-clause-reads : goal.returns-in_err-argument-clause-reads
returns-in_err-argument-clause-reads c =
    let p = err_from_is_err_and c.from_residual-in_err-argument.result c.from_residual-in_err-argument.ensures.1 in
    rw (p.1, p.2) (λ cs q. pass c.in_err-argument.field-0.0 (λ r vs d. c.in_ok-function.ensures.reads _ _ _ (wants c.in-Some.ensures refl (fails d))) c.in_err-argument.ensures.reads)

pub returns-in_default-mark-clause-reads : goal.returns-in_default-mark-clause-reads
returns-in_default-mark-clause-reads c = λ cs q. c.in_ok-function.ensures.reads _ _ _ (wants c.in-Some.ensures refl (calls c.in_ok-argument.ensures.reads (misses c.in_default-mark.ensures)))

pub returns-clause-reads : goal.returns-clause-reads
returns-clause-reads c =
    λ cs q. c.in_ok-function.ensures.reads _ _ _ (wants c.in-Some.ensures refl (calls c.in_ok-argument.ensures.reads (wants c.in-Some-mark.ensures refl gives)))
