use Rattle.std.proofs.Common.{refl}
use Rattle.std.proofs.lemmas.Result.{err_from_is_err_and}
use Rattle.ca_grammar.specs.Reads.{wants, misses, gives, calls, fails}
use Rattle.ca_expressions.proofs.Following.{pass}
use Rattle.ca_statements.proofs.StatementSteps.{item_of_expression}
use Rattle.ca_statements.proofs.statements.condition.Goals as goal

pub returns-in_default-clause-reads : goal.returns-in_default-clause-reads
returns-in_default-clause-reads c = misses c.in_default.ensures

pub returns-in_err-condition-clause-reads : goal.returns-in_err-condition-clause-reads
returns-in_err-condition-clause-reads c =
    let p = err_from_is_err_and c.from_residual.result c.from_residual.ensures.1 in
    rw (p.1, p.2) (pass c.in_err-condition.field-0.0 (λ r vs d. wants c.in-Some.ensures refl (fails (rw c.next_item.ensures at d))) c.in_err-condition.ensures.reads)

pub returns-in_default-mark-clause-reads : goal.returns-in_default-mark-clause-reads
returns-in_default-mark-clause-reads c = wants c.in-Some.ensures refl (calls (rw c.next_item.ensures at c.in_ok-condition.ensures.reads) (misses c.in_default-mark.ensures))

pub returns-clause-reads : goal.returns-clause-reads
returns-clause-reads c = wants c.in-Some.ensures refl (calls (rw c.next_item.ensures at c.in_ok-condition.ensures.reads) (wants c.in-Some-mark.ensures refl gives))

pub returns-clause-room : goal.returns-clause-room
returns-clause-room c = item_of_expression c.args.items _ _ _ (rw c.next_item.ensures at c.in_ok-condition.ensures.reads)
