use Rattle.std.proofs.Common.{refl}
use Rattle.std.proofs.lemmas.Result.{err_from_is_err_and}
use Rattle.ca_grammar.specs.Reads.{wants, misses, calls, fails, gives}
use Rattle.ca_expressions.proofs.Following.{pass}
use Rattle.ca_read.proofs.tops.program.Goals as goal

pub returns-in_err-tops : goal.returns-in_err-tops
returns-in_err-tops c =
    let p = err_from_is_err_and c.from_residual.result c.from_residual.ensures.1 in
    rw (p.1, p.2) (pass c.in_err-tops.field-0.0 (λ r vs d. fails d) c.in_err-tops.ensures.reads)

pub returns-in_default : goal.returns-in_default
returns-in_default c = calls c.in_ok-tops.ensures.reads (misses c.in_default.ensures)

pub returns : goal.returns
returns c = calls c.in_ok-tops.ensures.reads (wants c.in-Some.ensures refl gives)
