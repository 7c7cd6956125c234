use Rattle.std.proofs.lemmas.Result.{err_from_is_err_and}
use Rattle.ca_grammar.specs.Reads.{calls, fails}
use Rattle.ca_expressions.proofs.Following.{pass}
use Rattle.ca_expressions.proofs.expressions.behind_operator.Goals as goal

pub returns-in_err-a-clause-reads : goal.returns-in_err-a-clause-reads
returns-in_err-a-clause-reads c =
    let p = err_from_is_err_and c.from_residual.result c.from_residual.ensures.1 in
    rw (p.1, p.2) (λ g on. pass c.in_err-a.field-0.0 (λ r vs d. fails d) c.in_err-a.ensures.reads)

pub returns-clause-reads : goal.returns-clause-reads
returns-clause-reads c = λ g on o d. calls c.in_ok-a.ensures.reads (rw c.in_ok-signed.ensures at d)
