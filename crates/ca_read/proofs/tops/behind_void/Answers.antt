use Rattle.std.proofs.Common.{refl}
use Rattle.std.proofs.lemmas.Result.{err_from_is_err_and}
use Rattle.ca_grammar.specs.Reads.{takes, passes, calls, fails, gives}
use Rattle.ca_expressions.proofs.Following.{pass}
use Rattle.ca_read.proofs.tops.behind_void.Goals as goal

pub returns-in_err-function-clause-reads : goal.returns-in_err-function-clause-reads
returns-in_err-function-clause-reads c =
    let p = err_from_is_err_and c.from_residual.result c.from_residual.ensures.1 in
    rw (p.1, p.2) (pass c.in_err-function.field-0.0 (λ r vs d. passes c.in_default.ensures (fails d)) c.in_err-function.ensures.reads)

pub returns-in_default-clause-reads : goal.returns-in_default-clause-reads
returns-in_default-clause-reads c = passes c.in_default.ensures (calls c.in_ok-function.ensures.reads gives)

pub returns-in_err-function-2-clause-reads : goal.returns-in_err-function-2-clause-reads
returns-in_err-function-2-clause-reads c =
    let p = err_from_is_err_and c.from_residual-in_err-function-2.result c.from_residual-in_err-function-2.ensures.1 in
    rw (p.1, p.2) (pass c.in_err-function-2.field-0.0 (λ r vs d. takes c.in-Some.ensures refl (fails d)) c.in_err-function-2.ensures.reads)

pub returns-clause-reads : goal.returns-clause-reads
returns-clause-reads c = takes c.in-Some.ensures refl (calls c.in_ok-function-2.ensures.reads gives)
