use Rattle.std.proofs.lemmas.Result.{err_from_is_err_and}
use Rattle.ca_grammar.specs.Reads.{gives, calls, fails}
use Rattle.ca_expressions.proofs.Following.{pass}
use Rattle.ca_phrases.proofs.calls.value_from.Goals as goal

pub returns-in_err-b-clause-reads : goal.returns-in_err-b-clause-reads
returns-in_err-b-clause-reads c =
    let p = err_from_is_err_and c.from_residual.result c.from_residual.ensures.1 in
    rw (p.1, p.2) (pass c.in_err-b.field-0.0 (λ r vs d. fails d) c.in_err-b.ensures.reads)

pub returns-clause-reads : goal.returns-clause-reads
returns-clause-reads c = calls c.in_ok-b.ensures.reads gives
