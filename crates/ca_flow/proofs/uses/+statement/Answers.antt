use Rattle.std.proofs.Common.{List, Option, Some, ap, sym, ◌∙◌}
use Rattle.ca_model.specs.declared.tree.Stmt.{Stmt}
use Rattle.ca_model.specs.declared.tree.Stmt.TheVariants as s
use Rattle.ca_model.specs.Sites.{items_in}
use Rattle.ca_flow.specs.Tables.{Uses, with_items}
use Rattle.ca_flow.proofs.UsesOfItems.{with_block, with_else, with_do, with_for, next_statement}
use Rattle.ca_flow.proofs.uses.+statement.Goals as goal

pub statement-returns-in_ok-statements-in-Block : goal.statement-returns-in_ok-statements-in-Block
statement-returns-in_ok-statements-in-Block t c =
    with_block c.args.function c.args.stmt.now c.as_slice.result.now c.args.uses.now c.statements.new.uses (c.in-Block.is ∙ ap (λ (xs : List Stmt). s.Block xs) (sym c.as_slice.ensures)) c.in_ok-statements-in-Block.ensures

pub statement-returns-in_ok-statement-in-If-2 : goal.statement-returns-in_ok-statement-in-If-2
statement-returns-in_ok-statement-in-If-2 t c =
    with_else c.args.function c.args.stmt.now c.in-If.cond c.get.result.now c.get-in-Some.result.now c.args.uses.now c.statement.new.uses c.statement-in-Some.new.uses
    (c.in-If.is ∙ ap (λ (a : Stmt). s.If c.in-If.cond a c.in-If.no) (sym c.get.ensures)
    ∙ ap (λ (b : Option Stmt). s.If c.in-If.cond c.get.result.now b) (c.in-Some.is ∙ ap (λ (b : Stmt). Some b) (sym c.get-in-Some.ensures)))
    (c.in_ok-statement-in-If.ensures ∙ ap (λ (u : Uses). with_items c.args.function u (items_in c.get.result.now)) c.in_ok-add-in-If.ensures) c.in_ok-statement-in-If-2.ensures

pub statement-returns-in_ok-add-in-Do : goal.statement-returns-in_ok-add-in-Do
statement-returns-in_ok-add-in-Do t c =
    with_do c.args.function c.args.stmt.now c.get-in-Do.result.now c.in-Do.cond c.args.uses.now c.statement-in-Do.new.uses c.add-in-Do.new.self
    (c.in-Do.is ∙ ap (λ (a : Stmt). s.Do a c.in-Do.cond) (sym c.get-in-Do.ensures)) c.in_ok-statement-in-Do.ensures c.in_ok-add-in-Do.ensures

pub statement-returns-in_ok-statement-in-For : goal.statement-returns-in_ok-statement-in-For
statement-returns-in_ok-statement-in-For t c =
    with_for c.args.function c.args.stmt.now c.get-in-For.result.now c.in-For.first c.in-For.step c.in-For.cond c.args.uses.now c.add_if_there.new.uses c.add-in-For.new.self c.add_if_there-in-For.new.uses c.statement-in-For.new.uses
    (c.in-For.is ∙ ap (λ (a : Stmt). s.For c.in-For.first c.in-For.cond c.in-For.step a) (sym c.get-in-For.ensures))
    c.in_ok-add_if_there-in-For.ensures c.in_ok-add-in-For.ensures c.in_ok-add_if_there-in-For-2.ensures c.in_ok-statement-in-For.ensures

pub statements-loop-stmt-preserved : goal.statements-loop-stmt-preserved
statements-loop-stmt-preserved t c =
    next_statement c.args.function c.args.stmts.now c.loop-stmt.uses c.statement.new.uses c.loop-stmt.stmt-index c.stmt-item.result _ c.loop-stmt-test.true c.stmt-item.is c.loop-stmt.invariant c.in_ok-statement.ensures
