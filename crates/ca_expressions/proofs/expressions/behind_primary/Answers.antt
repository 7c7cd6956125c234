use Rattle.std.proofs.lemmas.Result.{err_from_is_err_and}
use Rattle.ca_grammar.specs.Goals.{Behind, From}
use Rattle.ca_grammar.specs.Reads.{gives, calls, fails}
use Rattle.ca_expressions.proofs.Following.{pass}
use Rattle.ca_expressions.proofs.Following.{read_on}
use Rattle.ca_expressions.proofs.expressions.behind_primary.Goals as goal

pub returns-in_err-b-clause-reads : goal.returns-in_err-b-clause-reads
returns-in_err-b-clause-reads c =
    let p = err_from_is_err_and c.from_residual.result c.from_residual.ensures.1 in
    rw (p.1, p.2) (pass c.in_err-b.field-0.0 (λ r vs d. fails d) c.in_err-b.ensures.reads)

pub returns-clause-reads : goal.returns-clause-reads
returns-clause-reads c =
    read_on (Behind c.args.top c.in_ok-b.b) (From c.args.top c.args.a) _ _ c.in_ok-b.rest.now c.args.tokens.now c.behind_unary.result
    (λ x d. calls c.in_ok-b.ensures.reads (calls d gives)) (λ r vs d. calls c.in_ok-b.ensures.reads (fails d)) c.behind_unary.ensures.reads
