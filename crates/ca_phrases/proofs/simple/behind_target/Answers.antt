use Rattle.std.proofs.Common.{refl}
use Rattle.std.proofs.lemmas.Result.{err_from_is_err_and}
use Rattle.ca_grammar.specs.Reads.{takes, passes, wants, misses, gives, calls, fails}
use Rattle.ca_expressions.proofs.Following.{pass}
use Rattle.ca_phrases.proofs.simple.behind_target.Goals as goal

pub returns-in_err-value-clause-reads : goal.returns-in_err-value-clause-reads
returns-in_err-value-clause-reads c =
    let p = err_from_is_err_and c.from_residual.result c.from_residual.ensures.1 in
    rw (p.1, p.2) (pass c.in_err-value.field-0.0 (λ r vs d. takes c.in-Some.ensures refl (fails d)) c.in_err-value.ensures.reads)

pub returns-in-Some-clause-reads : goal.returns-in-Some-clause-reads
returns-in-Some-clause-reads c = takes c.in-Some.ensures refl (calls c.in_ok-value.ensures.reads gives)

pub returns-in_err-value-2-clause-reads : goal.returns-in_err-value-2-clause-reads
returns-in_err-value-2-clause-reads c =
    let p = err_from_is_err_and c.from_residual-in_err-value-2.result c.from_residual-in_err-value-2.ensures.1 in
    rw (p.1, p.2) (pass c.in_err-value-2.field-0.0 (λ r vs d. passes c.in_default.ensures (takes c.in-Some-update_operator.ensures refl (fails d))) c.in_err-value-2.ensures.reads)

pub returns-in-Some-update_operator-clause-reads :
    goal.returns-in-Some-update_operator-clause-reads
returns-in-Some-update_operator-clause-reads c = passes c.in_default.ensures (takes c.in-Some-update_operator.ensures refl (calls c.in_ok-value-2.ensures.reads gives))

pub returns-in_default-step_operator-clause-reads : goal.returns-in_default-step_operator-clause-reads
returns-in_default-step_operator-clause-reads c = passes c.in_default.ensures (passes c.in_default-update_operator.ensures (misses c.in_default-step_operator.ensures))

pub returns-clause-reads : goal.returns-clause-reads
returns-clause-reads c = rw c.one.ensures (passes c.in_default.ensures (passes c.in_default-update_operator.ensures (wants c.in-Some-step_operator.ensures refl gives)))
