use Rattle.std.proofs.Common.{ap, arith, add-one}
use Rattle.std.proofs.lemmas.Result.{err_from_is_err_and}
use Rattle.ca_tree.specs.StatementTrees.{Branch}
use Rattle.ca_grammar.specs.Goals.{Numbered, Braceless}
use Rattle.ca_grammar.specs.StatementPlans.{nested, simply_said}
use Rattle.ca_grammar.specs.Reads.{gives}
use Rattle.ca_statements.proofs.StatementSteps.{answers, item_fits}
use Rattle.ca_statements.proofs.statements.simply_said.Goals as goal

pub returns-in_err-pos-clause-reads : goal.returns-in_err-pos-clause-reads
returns-in_err-pos-clause-reads c =
    let p = err_from_is_err_and c.from_residual.result c.from_residual.ensures.1 in
    rw (p.1, p.2) (λ in_loop. (rw (c.next_item.ensures, c.nesting.ensures) at c.in_err-pos.ensures.reads) (Braceless in_loop c.args.depth c.args.items) _)

pub item-requires : goal.item-requires
item-requires c = item_fits c.args.items (nested c.args.depth) (rw c.next_item.ensures at c.in_ok-pos.ensures.counts)

pub returns-clause-room : goal.returns-clause-room
returns-clause-room c =
    let fits = item_fits c.args.items (nested c.args.depth) (rw c.next_item.ensures at c.in_ok-pos.ensures.counts) in
    omega (arith, fits, ap (λ (x : Numbered Branch). x.items) c.closed.ensures)

pub returns-clause-reads : goal.returns-clause-reads
returns-clause-reads c =
    λ in_loop. answers (Braceless in_loop c.args.depth c.args.items) (simply_said in_loop c.args.depth c.args.items) c.args.tokens.now c.in_ok-pos.rest.now _ _ (rw (c.item.ensures, add-one c.args.items) at c.closed.ensures)
    ((rw (c.next_item.ensures, c.nesting.ensures) at c.in_ok-pos.ensures.reads) (Braceless in_loop c.args.depth c.args.items) _ _ gives)
