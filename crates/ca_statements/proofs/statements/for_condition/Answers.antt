use Rattle.std.proofs.Common.{refl}
use Rattle.std.proofs.lemmas.Result.{err_from_is_err_and}
use Rattle.ca_grammar.specs.Reads.{takes, overs, passes, wants, misses, gives, calls, fails}
use Rattle.ca_expressions.proofs.Following.{pass}
use Rattle.ca_statements.proofs.StatementSteps.{item_of_expression}
use Rattle.ca_statements.proofs.statements.for_condition.Goals as goal

pub returns-in-Some-over_item-clause-reads : goal.returns-in-Some-over_item-clause-reads
returns-in-Some-over_item-clause-reads c =
    let over = c.in-Some-over_item.ensures.exceeded in
    (over.0, overs c.in-Some.ensures over.1, over.2)

pub returns-in-Some-clause-reads : goal.returns-in-Some-clause-reads
returns-in-Some-clause-reads c = rw c.item.ensures (takes c.in-Some.ensures c.in_default-over_item.ensures.exceeded gives)

pub returns-in_err-condition-clause-reads : goal.returns-in_err-condition-clause-reads
returns-in_err-condition-clause-reads c =
    let p = err_from_is_err_and c.from_residual.result c.from_residual.ensures.1 in
    rw (p.1, p.2) (pass c.in_err-condition.field-0.0 (λ r vs d. passes c.in_default.ensures (fails (rw c.next_item.ensures at d))) c.in_err-condition.ensures.reads)

pub returns-in_default-mark-clause-reads : goal.returns-in_default-mark-clause-reads
returns-in_default-mark-clause-reads c = passes c.in_default.ensures (calls (rw c.next_item.ensures at c.in_ok-condition.ensures.reads) (misses c.in_default-mark.ensures))

pub item-requires-2 : goal.item-requires-2
item-requires-2 c = item_of_expression c.args.items _ _ _ (rw c.next_item.ensures at c.in_ok-condition.ensures.reads)

pub returns-clause-room : goal.returns-clause-room
returns-clause-room c = item_of_expression c.args.items _ _ _ (rw c.next_item.ensures at c.in_ok-condition.ensures.reads)

pub returns-clause-reads : goal.returns-clause-reads
returns-clause-reads c = rw c.item-2.ensures (passes c.in_default.ensures (calls (rw c.next_item.ensures at c.in_ok-condition.ensures.reads) (wants c.in-Some-mark.ensures refl gives)))
