use Rattle.std.proofs.Common.{List, Option, Some, ap, sym, ◌∙◌}
use Rattle.ca_model.specs.declared.tree.Stmt.{Stmt}
use Rattle.ca_model.specs.declared.tree.Stmt.TheVariants as s
use Rattle.ca_model.specs.Sites.{items_in}
use Rattle.ca_model.specs.Fitting.{Left, behind_items}
use Rattle.ca_model.proofs.FittingItems.{behind_block, behind_else, behind_do, next_statement}
use Rattle.ca_model.proofs.plan_fits.+statement.Goals as goal

pub statement-returns-in-Block : goal.statement-returns-in-Block
statement-returns-in-Block t c =
    behind_block c.args.stmt.now c.as_slice.result.now c.args.left.now c.statements.new.left (c.in-Block.is ∙ ap (λ (xs : List Stmt). s.Block xs) (sym c.as_slice.ensures)) c.statements.ensures

pub statement-returns-in-Some : goal.statement-returns-in-Some
statement-returns-in-Some t c =
    behind_else c.args.stmt.now c.in-If.cond c.get.result.now c.get-in-Some.result.now c.args.left.now c.statement.new.left c.statement-in-Some.new.left
    (c.in-If.is ∙ ap (λ (a : Stmt). s.If c.in-If.cond a c.in-If.no) (sym c.get.ensures)
    ∙ ap (λ (b : Option Stmt). s.If c.in-If.cond c.get.result.now b) (c.in-Some.is ∙ ap (λ (b : Stmt). Some b) (sym c.get-in-Some.ensures)))
    (c.statement.ensures ∙ ap (λ (l : Left). behind_items l (items_in c.get.result.now)) c.pass-in-If.ensures) c.statement-in-Some.ensures

pub statement-returns-in-Do : goal.statement-returns-in-Do
statement-returns-in-Do t c =
    behind_do c.args.stmt.now c.get-in-Do.result.now c.in-Do.cond c.args.left.now c.statement-in-Do.new.left c.pass-in-Do.new.self
    (c.in-Do.is ∙ ap (λ (a : Stmt). s.Do a c.in-Do.cond) (sym c.get-in-Do.ensures)) c.statement-in-Do.ensures c.pass-in-Do.ensures

pub statements-loop-stmt-preserved : goal.statements-loop-stmt-preserved
statements-loop-stmt-preserved t c =
    next_statement c.args.stmts.now c.loop-stmt.left c.statement.new.left c.loop-stmt.stmt-index c.stmt-item.result _ c.loop-stmt-test.true c.stmt-item.is c.loop-stmt.invariant c.statement.ensures
