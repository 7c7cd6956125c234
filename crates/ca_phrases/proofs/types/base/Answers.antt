use Rattle.std.proofs.lemmas.Result.{err_from_is_err_and}
use Rattle.ca_grammar.specs.Reads.{takes, overs, passes, wants, exceeds, misses, gives}
use Rattle.ca_expressions.proofs.Following.{pass}
use Rattle.ca_phrases.proofs.types.base.Goals as goal

pub returns-in-Some-exceeded-clause-reads : goal.returns-in-Some-exceeded-clause-reads
returns-in-Some-exceeded-clause-reads c =
    let over = c.in-Some-exceeded.ensures in
    (over.0, overs c.in-Some.ensures over.1, over.2)

pub returns-in-Some-clause-reads : goal.returns-in-Some-clause-reads
returns-in-Some-clause-reads c = takes c.in-Some.ensures c.in_default-exceeded.ensures gives

pub returns-in_default-word-clause-reads : goal.returns-in_default-word-clause-reads
returns-in_default-word-clause-reads c = passes c.in_default.ensures (misses c.in_default-word.ensures)

pub returns-in-Some-exceeded-2-clause-reads : goal.returns-in-Some-exceeded-2-clause-reads
returns-in-Some-exceeded-2-clause-reads c =
    let over = c.in-Some-exceeded-2.ensures in
    (over.0, passes c.in_default.ensures (exceeds c.in-Some-word.ensures over.1), over.2)

pub returns-in_err-name-clause-reads : goal.returns-in_err-name-clause-reads
returns-in_err-name-clause-reads c =
    let p = err_from_is_err_and c.from_residual.result c.from_residual.ensures.1 in
    rw (p.1, p.2) (pass c.in_err-name.field-0.0 (λ r vs d. passes c.in_default.ensures (wants c.in-Some-word.ensures c.in_default-exceeded-2.ensures d)) (c.in_err-name.ensures.reads _ _))

pub returns-clause-reads : goal.returns-clause-reads
returns-clause-reads c = passes c.in_default.ensures (wants c.in-Some-word.ensures c.in_default-exceeded-2.ensures (c.in_ok-name.ensures.reads _ _ _ gives))
