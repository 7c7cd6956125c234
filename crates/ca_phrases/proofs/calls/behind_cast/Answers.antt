use Rattle.std.proofs.Common.{refl}
use Rattle.std.proofs.lemmas.Result.{err_from_is_err_and}
use Rattle.ca_grammar.specs.Reads.{wants, misses, gives, calls, fails}
use Rattle.ca_expressions.proofs.Following.{pass}
use Rattle.ca_phrases.proofs.calls.behind_cast.Goals as goal

pub returns-in_default-clause-reads : goal.returns-in_default-clause-reads
returns-in_default-clause-reads c = calls c.stars-stars.ensures.reads (misses c.in_default.ensures)

pub returns-in_default-word-clause-reads : goal.returns-in_default-word-clause-reads
returns-in_default-word-clause-reads c = calls c.stars-stars.ensures.reads (wants c.in-Some.ensures refl (misses c.in_default-word.ensures))

pub returns-in_err-malloc-clause-reads : goal.returns-in_err-malloc-clause-reads
returns-in_err-malloc-clause-reads c =
    let p = err_from_is_err_and c.from_residual.result c.from_residual.ensures.1 in
    rw (p.1, p.2) (pass c.in_err-malloc.field-0.0 (λ r vs d. calls c.stars-stars.ensures.reads (wants c.in-Some.ensures refl (wants c.in-Some-word.ensures refl (fails d)))) c.in_err-malloc.ensures.reads)

pub returns-clause-reads : goal.returns-clause-reads
returns-clause-reads c = calls c.stars-stars.ensures.reads (wants c.in-Some.ensures refl (wants c.in-Some-word.ensures refl (calls c.in_ok-malloc.ensures.reads gives)))
