use Rattle.std.proofs.Common.{◌-◌, arith}
use Rattle.std.proofs.lemmas.Result.{err_from_is_err_and}
use Rattle.ca_grammar.specs.Reads.{gives}
use Rattle.ca_expressions.proofs.Following.{pass}
use Rattle.ca_expressions.proofs.Operands.{behind_fails, behind_read}
use Rattle.ca_expressions.proofs.expressions.+behind_unary.Goals as goal

pub returns-then-top-eq0-clause-reads : goal.returns-then-top-eq0-clause-reads
returns-then-top-eq0-clause-reads t c = rw c.if-top-eq0.true gives

pub returns-in_err-left-clause-reads : goal.returns-in_err-left-clause-reads
returns-in_err-left-clause-reads t c =
    let p = err_from_is_err_and c.from_residual.result c.from_residual.ensures.1 in
    rw (p.1, p.2) (pass c.in_err-left.field-0.0 (λ r vs d. behind_fails c.args.top (c.args.top - 1) c.args.a r vs c.args.tokens.now (omega arith) d) c.in_err-left.ensures.reads)

pub returns-clause-reads : goal.returns-clause-reads
returns-clause-reads t c =
    behind_read c.args.top (c.args.top - 1) c.args.a c.in_ok-left.left c.in_ok-left.rest.now c.args.tokens.now _ c.operators.result (omega arith) c.in_ok-left.ensures.reads c.operators.ensures.reads
