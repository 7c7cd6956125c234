use Rattle.std.proofs.Common.{refl}
use Rattle.std.proofs.lemmas.Result.{err_from_is_err_and}
use Rattle.ca_grammar.specs.Reads.{takes, passes, calls, fails}
use Rattle.ca_expressions.proofs.Following.{pass}
use Rattle.ca_read.proofs.tops.declaration.Goals as goal

pub returns-in_err-all-clause-reads : goal.returns-in_err-all-clause-reads
returns-in_err-all-clause-reads c =
    let p = err_from_is_err_and c.from_residual.result c.from_residual.ensures.1 in
    rw (p.1, p.2) (λ g f k. pass c.in_err-all.field-0.0 (λ r vs d. takes c.in-Some.ensures refl (fails d)) c.in_err-all.ensures.reads)

pub returns-in-Some-clause-reads : goal.returns-in-Some-clause-reads
returns-in-Some-clause-reads c = λ g f k o d. takes c.in-Some.ensures refl (calls c.in_ok-all.ensures.reads d)

pub returns-in_err-all-2-clause-reads : goal.returns-in_err-all-2-clause-reads
returns-in_err-all-2-clause-reads c =
    let p = err_from_is_err_and c.from_residual-in_err-all-2.result c.from_residual-in_err-all-2.ensures.1 in
    rw (p.1, p.2) (λ g f k. pass c.in_err-all-2.field-0.0 (λ r vs d. passes c.in_default.ensures (takes c.in-Some-word.ensures refl (fails d))) c.in_err-all-2.ensures.reads)

pub returns-in-Some-word-clause-reads : goal.returns-in-Some-word-clause-reads
returns-in-Some-word-clause-reads c = λ g f k o d. passes c.in_default.ensures (takes c.in-Some-word.ensures refl (calls c.in_ok-all-2.ensures.reads d))

pub returns-in_err-behind_void-clause-reads : goal.returns-in_err-behind_void-clause-reads
returns-in_err-behind_void-clause-reads c =
    let p = err_from_is_err_and c.from_residual-in_err-behind_void.result c.from_residual-in_err-behind_void.ensures.1 in
    rw (p.1, p.2) (λ g f k. pass c.in_err-behind_void.field-0.0 (λ r vs d. passes c.in_default.ensures (passes c.in_default-word.ensures (takes c.in-Some-word-2.ensures refl (fails d)))) c.in_err-behind_void.ensures.reads)

pub returns-in-Some-word-2-clause-reads : goal.returns-in-Some-word-2-clause-reads
returns-in-Some-word-2-clause-reads c = λ g f k o d. passes c.in_default.ensures (passes c.in_default-word.ensures (takes c.in-Some-word-2.ensures refl (calls c.in_ok-behind_void.ensures.reads d)))

pub returns-in_default-word-3-clause-reads : goal.returns-in_default-word-3-clause-reads
returns-in_default-word-3-clause-reads c = λ g f k o d. passes c.in_default.ensures (passes c.in_default-word.ensures (passes c.in_default-word-2.ensures (passes c.in_default-word-3.ensures d)))

pub returns-in_err-behind_base-clause-reads : goal.returns-in_err-behind_base-clause-reads
returns-in_err-behind_base-clause-reads c =
    let p = err_from_is_err_and c.from_residual-in_err-behind_base.result c.from_residual-in_err-behind_base.ensures.1 in
    rw (p.1, p.2) (λ g f k. pass c.in_err-behind_base.field-0.0 (λ r vs d. passes c.in_default.ensures (passes c.in_default-word.ensures (passes c.in_default-word-2.ensures (takes c.in-Some-word-3.ensures refl (fails d)))))
    c.in_err-behind_base.ensures.reads)

pub returns-clause-reads : goal.returns-clause-reads
returns-clause-reads c = λ g f k o d. passes c.in_default.ensures (passes c.in_default-word.ensures (passes c.in_default-word-2.ensures (takes c.in-Some-word-3.ensures refl (calls c.in_ok-behind_base.ensures.reads d))))
