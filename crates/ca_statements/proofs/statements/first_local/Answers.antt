use Rattle.std.proofs.Common.{refl, add-one}
use Rattle.std.proofs.lemmas.Result.{err_from_is_err_and}
use Rattle.ca_grammar.specs.Reads.{wants, misses, gives, calls, fails}
use Rattle.ca_expressions.proofs.Following.{pass}
use Rattle.ca_statements.proofs.statements.first_local.Goals as goal

pub returns-in_err-local-clause-reads : goal.returns-in_err-local-clause-reads
returns-in_err-local-clause-reads c =
    let p = err_from_is_err_and c.from_residual.result c.from_residual.ensures.1 in
    rw (p.1, p.2) (pass c.in_err-local.field-0.0 (λ r vs d. fails d) c.in_err-local.ensures.reads)

pub returns-in_default-clause-reads : goal.returns-in_default-clause-reads
returns-in_default-clause-reads c = calls c.in_ok-local.ensures.reads (misses c.in_default.ensures)

pub returns-clause-reads : goal.returns-clause-reads
returns-clause-reads c = rw (add-one c.args.items) (calls c.in_ok-local.ensures.reads (wants c.in-Some.ensures refl gives))
