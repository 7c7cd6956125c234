use Rattle.std.proofs.lemmas.Result.{err_from_is_err_and}
use Rattle.ca_grammar.specs.Reads.{calls, fails}
use Rattle.ca_expressions.proofs.Following.{pass}
use Rattle.ca_statements.proofs.StatementSteps.{item_of_starred}
use Rattle.ca_statements.proofs.locals.next_declarator.Goals as goal

pub returns-in_err-starred-clause-reads : goal.returns-in_err-starred-clause-reads
returns-in_err-starred-clause-reads c =
    let p = err_from_is_err_and c.from_residual.result c.from_residual.ensures.1 in
    rw (p.1, p.2) (pass c.in_err-starred.field-0.0 (λ r vs d. fails (rw c.next_item.ensures at d)) c.in_err-starred.ensures.reads)

pub returns-in_err-value-clause-reads : goal.returns-in_err-value-clause-reads
returns-in_err-value-clause-reads c =
    let p = err_from_is_err_and c.from_residual-in_err-value.result c.from_residual-in_err-value.ensures.1 in
    rw (p.1, p.2) (pass c.in_err-value.field-0.0 (λ r vs d. calls (rw c.next_item.ensures at c.in_ok-starred.ensures.reads) (fails d)) c.in_err-value.ensures.reads)

pub item-requires : goal.item-requires
item-requires c = item_of_starred c.args.items c.args.base.now _ _ _ (rw c.next_item.ensures at c.in_ok-starred.ensures.reads)

pub returns-clause-room : goal.returns-clause-room
returns-clause-room c = item_of_starred c.args.items c.args.base.now _ _ _ (rw c.next_item.ensures at c.in_ok-starred.ensures.reads)

pub returns-clause-reads : goal.returns-clause-reads
returns-clause-reads c = λ o d. calls (rw c.next_item.ensures at c.in_ok-starred.ensures.reads) (calls c.in_ok-value.ensures.reads (rw c.item.ensures at d))
