use Rattle.std.proofs.lemmas.Result.{err_from_is_err_and}
use Rattle.ca_grammar.specs.Reads.{calls}
use Rattle.ca_expressions.proofs.Following.{pass}
use Rattle.ca_read.proofs.totals.stars_and_name.Goals as goal

pub returns-in_err-name-clause-reads : goal.returns-in_err-name-clause-reads
returns-in_err-name-clause-reads c =
    let p = err_from_is_err_and c.from_residual.result c.from_residual.ensures.1 in
    rw (p.1, p.2) (λ g on. pass c.in_err-name.field-0.0 (λ r vs d. calls c.stars-stars.ensures.reads d) (c.in_err-name.ensures.reads g (on c.stars-stars.result.0)))

pub returns-clause-reads : goal.returns-clause-reads
returns-clause-reads c = λ g on o d. calls c.stars-stars.ensures.reads (c.in_ok-name.ensures.reads g (on c.stars-stars.result.0) o d)
