use Rattle.std.proofs.Common.{refl, add-one}
use Rattle.std.proofs.lemmas.Result.{err_from_is_err_and}
use Rattle.ca_grammar.specs.Goals.{Braceless}
use Rattle.ca_grammar.specs.StatementPlans.{behind_return}
use Rattle.ca_grammar.specs.Reads.{takes, passes, wants, misses, gives, calls, fails}
use Rattle.ca_expressions.proofs.Following.{pass}
use Rattle.ca_statements.proofs.StatementSteps.{answers}
use Rattle.ca_statements.proofs.statements.behind_return.Goals as goal

pub returns-in-Some-clause-reads : goal.returns-in-Some-clause-reads
returns-in-Some-clause-reads c =
    λ in_loop d. answers (Braceless in_loop d c.args.items) (behind_return in_loop d c.args.items c.args.pos) c.args.tokens.now c.in-Some.rest.now _ _ (rw (c.item.ensures, add-one c.args.items) at c.closed.ensures)
    (takes c.in-Some.ensures refl gives)

pub returns-in_err-value-clause-reads : goal.returns-in_err-value-clause-reads
returns-in_err-value-clause-reads c =
    let p = err_from_is_err_and c.from_residual.result c.from_residual.ensures.1 in
    rw (p.1, p.2) (λ in_loop d. pass c.in_err-value.field-0.0 (λ r vs y. passes c.in_default.ensures (fails y)) c.in_err-value.ensures.reads)

pub returns-in_default-mark-clause-reads : goal.returns-in_default-mark-clause-reads
returns-in_default-mark-clause-reads c = λ in_loop d. passes c.in_default.ensures (calls c.in_ok-value.ensures.reads (misses c.in_default-mark.ensures))

pub returns-clause-reads : goal.returns-clause-reads
returns-clause-reads c =
    λ in_loop d. answers (Braceless in_loop d c.args.items) (behind_return in_loop d c.args.items c.args.pos) c.args.tokens.now c.in-Some-mark.rest.now _ _ (rw (c.item-2.ensures, add-one c.args.items) at c.closed-2.ensures)
    (passes c.in_default.ensures (calls c.in_ok-value.ensures.reads (wants c.in-Some-mark.ensures refl gives)))
