use Rattle.std.proofs.Common.{List, Option, Some, ap, sym, ◌∙◌}
use Rattle.ca_model.specs.declared.tree.Stmt.{Stmt}
use Rattle.ca_model.specs.declared.tree.Stmt.TheVariants as s
use Rattle.ca_plan.proofs.PlacesOfItems.{placed_block, placed_else, placed_if, placed_while, placed_do, placed_for, next_placed}
use Rattle.ca_plan.proofs.places.+statement.Goals as goal

pub statement-returns-in_ok-statements-in-Block : goal.statement-returns-in_ok-statements-in-Block
statement-returns-in_ok-statements-in-Block t c =
    placed_block c.args.stmt.now c.as_slice.result.now c.args.places.now.items c.statements.new.places.items (c.in-Block.is ∙ ap (λ (xs : List Stmt). s.Block xs) (sym c.as_slice.ensures)) c.in_ok-statements-in-Block.ensures

pub statement-returns-in_ok-statement-in-Some : goal.statement-returns-in_ok-statement-in-Some
statement-returns-in_ok-statement-in-Some t c =
    placed_else c.args.stmt.now c.in-If.cond c.get.result.now c.get-in-Some.result.now c.args.places.now.items c.item-in-If.new.places.items c.statement.new.places.items c.statement-in-Some.new.places.items
    (c.in-If.is ∙ ap (λ (a : Stmt). s.If c.in-If.cond a c.in-If.no) (sym c.get.ensures)
    ∙ ap (λ (b : Option Stmt). s.If c.in-If.cond c.get.result.now b) (c.in-Some.is ∙ ap (λ (b : Stmt). Some b) (sym c.get-in-Some.ensures)))
    c.in_ok-item-in-If.ensures c.in_ok-statement-in-If.ensures c.in_ok-statement-in-Some.ensures

pub statement-returns-in-None : goal.statement-returns-in-None
statement-returns-in-None t c =
    placed_if c.args.stmt.now c.in-If.cond c.get.result.now c.args.places.now.items c.item-in-If.new.places.items c.statement.new.places.items
    (c.in-If.is ∙ ap (λ (a : Stmt). s.If c.in-If.cond a c.in-If.no) (sym c.get.ensures) ∙ ap (λ (b : Option Stmt). s.If c.in-If.cond c.get.result.now b) c.in-None.is)
    c.in_ok-item-in-If.ensures c.in_ok-statement-in-If.ensures

pub statement-returns-in_ok-statement-in-While : goal.statement-returns-in_ok-statement-in-While
statement-returns-in_ok-statement-in-While t c =
    placed_while c.args.stmt.now c.in-While.cond c.get-in-While.result.now c.args.places.now.items c.item-in-While.new.places.items c.statement-in-While.new.places.items
    (c.in-While.is ∙ ap (λ (a : Stmt). s.While c.in-While.cond a) (sym c.get-in-While.ensures)) c.in_ok-item-in-While.ensures c.in_ok-statement-in-While.ensures

pub statement-returns-in_ok-item-in-Do : goal.statement-returns-in_ok-item-in-Do
statement-returns-in_ok-item-in-Do t c =
    placed_do c.args.stmt.now c.get-in-Do.result.now c.in-Do.cond c.args.places.now.items c.statement-in-Do.new.places.items c.item-in-Do.new.places.items
    (c.in-Do.is ∙ ap (λ (a : Stmt). s.Do a c.in-Do.cond) (sym c.get-in-Do.ensures)) c.in_ok-statement-in-Do.ensures c.in_ok-item-in-Do.ensures

pub statement-returns-in_ok-statement-in-For : goal.statement-returns-in_ok-statement-in-For
statement-returns-in_ok-statement-in-For t c =
    placed_for c.args.stmt.now c.in-For.first c.in-For.cond c.in-For.step c.get-in-For.result.now c.args.places.now.items c.item_if_there.new.places.items c.item-in-For.new.places.items c.item_if_there-in-For.new.places.items c.statement-in-For.new.places.items
    (c.in-For.is ∙ ap (λ (a : Stmt). s.For c.in-For.first c.in-For.cond c.in-For.step a) (sym c.get-in-For.ensures)) c.in_ok-item_if_there-in-For.ensures c.in_ok-item-in-For.ensures c.in_ok-item_if_there-in-For-2.ensures c.in_ok-statement-in-For.ensures

pub statements-loop-stmt-preserved : goal.statements-loop-stmt-preserved
statements-loop-stmt-preserved t c =
    next_placed c.args.stmts.now c.loop-stmt.places.items c.statement.new.places.items c.loop-stmt.stmt-index c.stmt-item.result _ c.loop-stmt-test.true c.stmt-item.is c.loop-stmt.invariant c.in_ok-statement.ensures
