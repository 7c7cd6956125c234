use Rattle.std.proofs.Common.{refl}
use Rattle.std.proofs.lemmas.Result.{err_from_is_err_and}
use Rattle.ca_grammar.specs.Reads.{wants, exceeds, misses, gives, calls, fails}
use Rattle.ca_expressions.proofs.Following.{pass}
use Rattle.ca_phrases.proofs.library.print.Goals as goal

pub returns-in_default-clause-reads : goal.returns-in_default-clause-reads
returns-in_default-clause-reads c = λ cs q. misses c.in_default.ensures

pub returns-in_default-string-clause-reads : goal.returns-in_default-string-clause-reads
returns-in_default-string-clause-reads c = λ cs q. wants c.in-Some.ensures refl (misses c.in_default-string.ensures)

pub returns-in-Some-exceeded-clause-reads : goal.returns-in-Some-exceeded-clause-reads
returns-in-Some-exceeded-clause-reads c =
    let over = rw c.as_slice.ensures at c.in-Some-exceeded.ensures in
    λ cs q. (over.0, wants c.in-Some.ensures refl (exceeds c.in-Some-string.ensures over.1), over.2)

pub returns-in_err-arguments-clause-reads : goal.returns-in_err-arguments-clause-reads
returns-in_err-arguments-clause-reads c =
    let p = err_from_is_err_and c.from_residual.result c.from_residual.ensures.1 in
    let fits = rw c.as_slice.ensures at c.in_default-exceeded.ensures in
    rw (p.1, p.2) (λ cs q. pass c.in_err-arguments.field-0.0 (λ r vs d. wants c.in-Some.ensures refl (wants c.in-Some-string.ensures fits (fails d))) c.in_err-arguments.ensures.reads)

pub returns-clause-reads : goal.returns-clause-reads
returns-clause-reads c =
    let fits = rw c.as_slice.ensures at c.in_default-exceeded.ensures in
    rw c.in_ok-format.ensures (λ cs q. wants c.in-Some.ensures refl (wants c.in-Some-string.ensures fits (calls c.in_ok-arguments.ensures.reads gives)))
