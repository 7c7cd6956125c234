use Rattle.std.proofs.Common.{refl}
use Rattle.std.proofs.lemmas.Result.{err_from_is_err_and}
use Rattle.ca_grammar.specs.Reads.{wants, misses, calls, fails}
use Rattle.ca_expressions.proofs.Following.{pass}
use Rattle.ca_statements.proofs.StatementSteps.{fits_simple}
use Rattle.ca_statements.proofs.statements.simple_to.Goals as goal

pub returns-in_err-pos-clause-reads : goal.returns-in_err-pos-clause-reads
returns-in_err-pos-clause-reads c =
    let p = err_from_is_err_and c.from_residual.result c.from_residual.ensures.1 in
    rw (p.1, p.2) (λ g f. pass c.in_err-pos.field-0.0 (λ r vs d. fails d) c.in_err-pos.ensures.reads)

pub returns-in_default-clause-reads : goal.returns-in_default-clause-reads
returns-in_default-clause-reads c = λ g f. calls c.in_ok-pos.ensures.reads (misses c.in_default.ensures)

pub returns-clause-reads : goal.returns-clause-reads
returns-clause-reads c = λ g f o d. calls c.in_ok-pos.ensures.reads (wants c.in-Some.ensures refl d)

pub returns-clause-counts : goal.returns-clause-counts
returns-clause-counts c = fits_simple c.args.counts.now _ _ _ c.in_ok-pos.ensures.reads
