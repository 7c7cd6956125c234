use Rattle.std.proofs.Common.{◌≡◌, ◌++◌, ℕ, length, take, replicate, refl, sym, ap, subst, ◌∙◌}
use Rattle.ca_model.specs.Arith.{null}
use Rattle.ca_flow.specs.Graphs.{IsDrawn}
use Rattle.ca_thread.specs.Silent.{Silent, StopsAt}
use Rattle.ca_thread.proofs.CallRows.{first_of_row, row_length}
use Rattle.ca_thread.proofs.Tops.{graph_under, begun_standing}
use Rattle.ca_thread.proofs.stack.begin.Goals as goal

pub settle-node-requires : goal.settle-node-requires
settle-node-requires c =
    subst IsDrawn (sym c.steps.ensures.steps) (graph_under c.args.code.now c.graph-graph.ensures.lowered c.args.f.0 c.graph-graph.result.now c.graph-graph.ensures.graph).2.drawn

pub returns : goal.returns
returns c =
    let l = c.args.code.now in
    let g = c.graph-graph.result.now in
    let is = c.graph-graph.ensures.lowered in
    let under = graph_under l is c.args.f.0 g c.graph-graph.ensures.graph in
    let xs = c.args.arguments.now in
    let r = c.row_with-row.result in
    let row : r ≡ take g.registers (xs ++ replicate g.registers null) = c.row_with-row.ensures ∙ (c.in_ok-row_of.ensures ∙ ap (λ (n : ℕ). take n (xs ++ replicate n null)) c.registers.ensures) in
    let goes = subst (λ steps. Silent steps g.entry.0 r c.settle-node.result.0 c.settle-node.new.row) c.steps.ensures.steps
    (subst (λ n. Silent c.steps.result.now n.0 r c.settle-node.result.0 c.settle-node.new.row) c.entry.ensures c.settle-node.ensures.goes) in
    let stops = subst (λ steps. StopsAt steps c.settle-node.result.0 c.settle-node.new.row) c.steps.ensures.steps c.settle-node.ensures.stops in
    begun_standing l under.0 g c.args.f xs r _ is under.1 c.graph-graph.ensures.graph
    (ap (λ l. length l) row ∙ row_length xs g.registers)
    (ap (take under.0.locals) row ∙ first_of_row xs under.0.locals g.registers under.2.registers.0)
    goes stops refl
