use Rattle.std.proofs.Common.{List, Option, Some, ap, sym, ◌∙◌}
use Rattle.ca_tree.specs.declared.tree.Stmt.{Stmt}
use Rattle.ca_tree.specs.declared.tree.Stmt.TheVariants as s
use Rattle.ca_sites.proofs.TextStatements.{shown_block, shown_else, shown_do, next_shown}
use Rattle.ca_sites.proofs.statements.+statement.Goals as goal

pub statement-returns-in_ok-statements-in-Block : goal.statement-returns-in_ok-statements-in-Block
statement-returns-in_ok-statements-in-Block t c =
    shown_block c.args.stmt.now c.as_slice.result.now c.args.sites.now.items c.statements.new.sites.items (c.in-Block.is ∙ ap (λ (xs : List Stmt). s.Block xs) (sym c.as_slice.ensures)) c.in_ok-statements-in-Block.ensures

pub statement-returns-in_ok-statement-in-Some : goal.statement-returns-in_ok-statement-in-Some
statement-returns-in_ok-statement-in-Some t c =
    shown_else c.args.stmt.now c.in-If.item c.in-If.e c.get.result.now c.get-in-Some.result.now c.args.sites.now.items c.value.new.sites.items c.statement.new.sites.items c.statement-in-Some.new.sites.items
    (c.in-If.is ∙ ap (λ (a : Stmt). s.If c.in-If.item c.in-If.e a c.in-If.no) (sym c.get.ensures)
    ∙ ap (λ (b : Option Stmt). s.If c.in-If.item c.in-If.e c.get.result.now b) (c.in-Some.is ∙ ap (λ (b : Stmt). Some b) (sym c.get-in-Some.ensures)))
    c.in_ok-value-in-If.ensures c.in_ok-statement-in-If.ensures c.in_ok-statement-in-Some.ensures

pub statement-returns-in_ok-value-in-Do : goal.statement-returns-in_ok-value-in-Do
statement-returns-in_ok-value-in-Do t c =
    shown_do c.args.stmt.now c.get-in-Do.result.now c.in-Do.item c.in-Do.e c.args.sites.now.items c.statement-in-Do.new.sites.items c.value-in-Do.new.sites.items
    (c.in-Do.is ∙ ap (λ (a : Stmt). s.Do a c.in-Do.item c.in-Do.e) (sym c.get-in-Do.ensures)) c.in_ok-statement-in-Do.ensures c.in_ok-value-in-Do.ensures

pub statements-loop-stmt-preserved : goal.statements-loop-stmt-preserved
statements-loop-stmt-preserved t c =
    next_shown c.args.stmts.now c.loop-stmt.sites.items c.statement.new.sites.items c.loop-stmt.stmt-index c.stmt-item.result _ c.loop-stmt-test.true c.stmt-item.is c.loop-stmt.invariant c.in_ok-statement.ensures
