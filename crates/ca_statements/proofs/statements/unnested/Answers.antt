use Rattle.ca_grammar.specs.Goals.{Braceless}
use Rattle.ca_grammar.specs.StatementPlans.{behind_return, in_loops}
use Rattle.ca_grammar.specs.Reads.{plan, takes, overs, passes, gives}
use Rattle.ca_statements.specs.StatementReading.{branch_and_rest}
use Rattle.ca_expressions.proofs.Following.{follow_on}
use Rattle.ca_statements.proofs.StatementSteps.{answers}
use Rattle.ca_statements.proofs.statements.unnested.Goals as goal

pub returns-in-Some-over_depth-clause-reads : goal.returns-in-Some-over_depth-clause-reads
returns-in-Some-over_depth-clause-reads c =
    let over = c.in-Some-over_depth.ensures.exceeded in
    (over.0, overs c.in-Some.ensures over.1, over.2)

pub returns-in-Some-clause-reads : goal.returns-in-Some-clause-reads
returns-in-Some-clause-reads c =
    answers (Braceless c.args.in_loop c.args.depth c.args.items) (plan _) c.args.tokens.now c.in-Some.rest.now _ _ c.closed.ensures (takes c.in-Some.ensures c.in_default-over_depth.ensures.exceeded gives)

pub returns-in-Some-over_nested_item-clause-reads : goal.returns-in-Some-over_nested_item-clause-reads
returns-in-Some-over_nested_item-clause-reads c =
    let over = c.in-Some-over_nested_item.ensures.exceeded in
    (over.0, passes c.in_default.ensures (overs c.in-Some-word.ensures over.1), over.2)

pub returns-in-Some-word-clause-reads : goal.returns-in-Some-word-clause-reads
returns-in-Some-word-clause-reads c =
    let g = Braceless c.args.in_loop c.args.depth c.args.items in
    follow_on g g (behind_return c.args.in_loop c.args.depth c.args.items c.in-Some-word.pos) (plan _) branch_and_rest branch_and_rest c.in-Some-word.rest.now c.args.tokens.now c.behind_return.result
    (λ x d. passes c.in_default.ensures (takes c.in-Some-word.ensures c.in_default-over_nested_item.ensures.exceeded d))
    (λ r vs d. passes c.in_default.ensures (takes c.in-Some-word.ensures c.in_default-over_nested_item.ensures.exceeded d)) (c.behind_return.ensures.reads c.args.in_loop c.args.depth)

pub returns-clause-reads : goal.returns-clause-reads
returns-clause-reads c =
    let g = Braceless c.args.in_loop c.args.depth c.args.items in
    let none = c.requires.none in
    follow_on g g (in_loops c.args.in_loop c.args.depth c.args.items) (plan _) branch_and_rest branch_and_rest c.args.tokens.now c.args.tokens.now c.in_loops.result
    (λ x d. passes c.in_default.ensures (passes c.in_default-word.ensures (passes none.0 (passes none.1 (passes none.2 (passes none.3 d))))))
    (λ r vs d. passes c.in_default.ensures (passes c.in_default-word.ensures (passes none.0 (passes none.1 (passes none.2 (passes none.3 d)))))) c.in_loops.ensures.reads
