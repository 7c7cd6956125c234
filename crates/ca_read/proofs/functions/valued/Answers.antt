use Rattle.std.proofs.Common.{refl}
use Rattle.std.proofs.lemmas.Result.{err_from_is_err_and}
use Rattle.ca_grammar.specs.Reads.{takes, passes, wants, misses, calls}
use Rattle.ca_expressions.proofs.Following.{pass}
use Rattle.ca_read.proofs.functions.valued.Goals as goal

pub returns-in-Some-clause-reads : goal.returns-in-Some-clause-reads
returns-in-Some-clause-reads c = λ g f o d. takes c.in-Some.ensures refl (calls c.stars-stars.ensures.reads d)

pub returns-in_default-word-clause-reads : goal.returns-in_default-word-clause-reads
returns-in_default-word-clause-reads c = λ g f. passes c.in_default.ensures (misses c.in_default-word.ensures)

pub returns-in_err-name-clause-reads : goal.returns-in_err-name-clause-reads
returns-in_err-name-clause-reads c =
    let p = err_from_is_err_and c.from_residual.result c.from_residual.ensures.1 in
    rw (p.1, p.2) (λ g f. pass c.in_err-name.field-0.0 (λ r vs d. passes c.in_default.ensures (wants c.in-Some-word.ensures refl d)) (c.in_err-name.ensures.reads g _))

pub returns-in_default-mark-clause-reads : goal.returns-in_default-mark-clause-reads
returns-in_default-mark-clause-reads c = λ g f. passes c.in_default.ensures (wants c.in-Some-word.ensures refl (c.in_ok-name.ensures.reads _ _ _ (misses c.in_default-mark.ensures)))

pub returns-clause-reads : goal.returns-clause-reads
returns-clause-reads c = λ g f o d. passes c.in_default.ensures (wants c.in-Some-word.ensures refl (c.in_ok-name.ensures.reads _ _ _ (wants c.in-Some-mark.ensures refl (calls c.more_stars-stars.ensures.reads d))))
