use Rattle.std.proofs.Common.{refl}
use Rattle.std.proofs.lemmas.Result.{err_from_is_err_and}
use Rattle.ca_grammar.specs.Reads.{wants, misses, gives, calls, fails}
use Rattle.ca_expressions.proofs.Following.{pass}
use Rattle.ca_expressions.proofs.expressions.whole.Goals as goal

pub returns-in_err-a : goal.returns-in_err-a
returns-in_err-a c =
    let p = err_from_is_err_and c.from_residual.result c.from_residual.ensures.1 in
    rw (p.1, p.2) (pass c.in_err-a.field-0.0 (λ r vs d. fails d) c.in_err-a.ensures.reads)

pub returns-in_default : goal.returns-in_default
returns-in_default c = calls c.in_ok-a.ensures.reads (misses c.in_default.ensures)

pub returns : goal.returns
returns c = calls c.in_ok-a.ensures.reads (wants c.in-Some.ensures refl gives)
