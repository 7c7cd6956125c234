use Rattle.std.proofs.Common.{◌∙◌, ◌++◌, List, [], ◌∷◌, Option, ap, sym, refl, subst}
use Rattle.ca_tree.specs.declared.tree.Stmt.{Stmt}
use Rattle.ca_model.specs.declared.tree.Stmt.{Stmt as TypedStmt}
use Rattle.ca_model.specs.typing.Bodies.{Inside, Told, left}
use Rattle.ca_model.specs.typing.Statements.{told, all_told, a_block, condition_faults}
use Rattle.ca_operands.specs.Noted.{noted}
use Rattle.ca_blocks.proofs.Grown.{entered, placed, grew_left}
use Rattle.ca_blocks.proofs.Telling.{block_is, if_noted, for_noted, noted_two, whole_first, whole_next}
use Rattle.ca_blocks.proofs.statements.+statement.Goals as goal

pub block-leave-requires : goal.block-leave-requires
block-leave-requires t c =
    (c.enter-was.ensures.within, entered c.args.inside.now c.enter-was.new.self c.statements.new.inside c.enter-was.result c.enter-was.ensures.inner c.enter-was.ensures.was c.in_ok-statements.ensures.grew)

pub branch-leave-requires : goal.branch-leave-requires
branch-leave-requires t c = (c.place-was.ensures.within, placed c.args.inside.now c.statement.new.inside c.place-was.result c.place-was.ensures.was c.in_ok-statement.ensures.grew)

pub do_loop-returns-clause-noted : goal.do_loop-returns-clause-noted
do_loop-returns-clause-noted t c =
    noted_two c.args.faults.now.first c.branch-alloc.new.faults.first c.condition.new.faults.first (told c.args.body.now c.args.inside.now).faults (condition_faults c.args.inside.now c.args.exp.now) c.in_ok-body.ensures.noted
    (c.in_ok-cond.ensures.noted ∙ ap (λ (d : Inside). noted c.branch-alloc.new.faults.first (condition_faults d c.args.exp.now)) c.in_ok-body.ensures.behind)

pub while_loop-returns-clause-noted : goal.while_loop-returns-clause-noted
while_loop-returns-clause-noted t c =
    noted_two c.args.faults.now.first c.condition.new.faults.first c.branch-alloc.new.faults.first (condition_faults c.args.inside.now c.args.exp.now) (told c.args.body.now c.args.inside.now).faults c.in_ok-cond.ensures.noted c.in_ok-body.ensures.noted

pub statements-loop-stmt-init : goal.statements-loop-stmt-init
statements-loop-stmt-init t c = whole_first (λ (c : Inside) (x : Stmt). told x c) c.args.stmts.now c.args.inside.now c.args.out.now.items c.args.faults.now.first

pub statements-loop-stmt-preserved : goal.statements-loop-stmt-preserved
statements-loop-stmt-preserved t c =
    whole_next (λ (c : Inside) (x : Stmt). told x c) c.args.stmts.now c.args.inside.now c.args.out.now.items c.args.faults.now.first c.loop-stmt.stmt-index c.loop-stmt.inside c.statement.new.inside
    c.loop-stmt.out.items c.statement.new.out.items c.loop-stmt.faults.first c.statement.new.faults.first c.stmt-item.result c.loop-stmt-test.true c.stmt-item.is c.loop-stmt.invariant
    c.in_ok-statement.ensures.is c.in_ok-statement.ensures.noted c.in_ok-statement.ensures.behind c.in_ok-statement.ensures.grew

pub one_statement-returns-in_ok-found-in-Block-clause-is : goal.one_statement-returns-in_ok-found-in-Block-clause-is
one_statement-returns-in_ok-found-in-Block-clause-is t c =
    c.in_ok-found-in-Block.ensures.is ∙ ap (λ (x : Told). x.stmts) (sym (block_is c.args.inside.now c.args.stmt.now c.in-Block.stmts c.as_slice.result.now c.in-Block.is c.as_slice.ensures))

pub one_statement-returns-in_ok-found-in-Block-clause-noted : goal.one_statement-returns-in_ok-found-in-Block-clause-noted
one_statement-returns-in_ok-found-in-Block-clause-noted t c =
    c.in_ok-found-in-Block.ensures.noted ∙ ap (λ (x : Told). noted c.args.faults.now.first x.faults) (sym (block_is c.args.inside.now c.args.stmt.now c.in-Block.stmts c.as_slice.result.now c.in-Block.is c.as_slice.ensures))

pub one_statement-returns-in_ok-found-in-Block-clause-behind : goal.one_statement-returns-in_ok-found-in-Block-clause-behind
one_statement-returns-in_ok-found-in-Block-clause-behind t c =
    c.in_ok-found-in-Block.ensures.behind ∙ ap (λ (x : Told). x.behind) (sym (block_is c.args.inside.now c.args.stmt.now c.in-Block.stmts c.as_slice.result.now c.in-Block.is c.as_slice.ensures))

pub one_statement-returns-in_ok-no-in-If-clause-noted : goal.one_statement-returns-in_ok-no-in-If-clause-noted
one_statement-returns-in_ok-no-in-If-clause-noted t c =
    if_noted c.args.inside.now c.branch-alloc.new.inside c.args.stmt.now c.get.result.now c.in-If.yes c.in-If.at c.in-If.exp c.in-If.no c.args.faults.now.first c.condition.new.faults.first c.branch-alloc.new.faults.first
    c.else_branch.new.faults.first c.in-If.is c.get.ensures c.in_ok-cond-in-If.ensures.noted c.in_ok-yes-in-If.ensures.noted c.in_ok-yes-in-If.ensures.behind c.in_ok-no-in-If.ensures.noted

pub for_loop-returns-clause-noted : goal.for_loop-returns-clause-noted
for_loop-returns-clause-noted t c =
    for_noted c.args.inside.now c.enter-was.new.self c.first_item.new.inside c.args.head.now c.args.body.now c.args.faults.now.first c.first_item.new.faults.first c.condition_or_one.new.faults.first c.step_item.new.faults.first
    c.branch-alloc.new.faults.first c.enter-was.ensures.inner c.in_ok-first.ensures.behind c.in_ok-first.ensures.noted c.in_ok-cond.ensures.noted c.in_ok-step.ensures.noted c.in_ok-body.ensures.noted
