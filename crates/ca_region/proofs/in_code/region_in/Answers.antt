use Rattle.std.proofs.Common.{◌<◌, length, sym, subst}
use Rattle.ca_tree.specs.declared.numbers.FunId.{FunId}
use Rattle.ca_model.specs.declared.tree.Item.{Item}
use Rattle.ca_model.specs.Plans.{IsItem}
use Rattle.ca_region.proofs.OfCode.{in_function, number_within, flow_at}
use Rattle.ca_region.proofs.in_code.region_in.Goals as goal

pub graph-graph-requires : goal.graph-graph-requires
graph-graph-requires c =
    let l = c.args.code.now in
    let x : (x : Item) × IsItem l.source x c.args.item = c.requires in
    let h = in_function l.source.functions x.0 x.1.0 in
    subst (λ (n : FunId). n.0 < length l.source.functions) (sym (c.function_of.ensures h.0 x.0 h.1 h.2 x.1.1)) (number_within l c.graphs-graphs.ensures.lowered h.0 h.1)

pub returns-clause-items : goal.returns-clause-items
returns-clause-items c s of =
    let l = c.args.code.now in
    let h = in_function l.source.functions s of.0 in
    c.in_ok-found.ensures.items l.source h.0 s (flow_at l c.graphs-graphs.ensures.lowered h.0 c.graph-graph.result.now c.function_of.result h.1 (c.function_of.ensures h.0 s h.1 h.2 of.1) c.graph-graph.ensures.graph) h.2 of.1

pub returns-clause-after : goal.returns-clause-after
returns-clause-after c s of =
    let l = c.args.code.now in
    let h = in_function l.source.functions s of.0 in
    c.in_ok-found.ensures.after l.source h.0 s (flow_at l c.graphs-graphs.ensures.lowered h.0 c.graph-graph.result.now c.function_of.result h.1 (c.function_of.ensures h.0 s h.1 h.2 of.1) c.graph-graph.ensures.graph) h.2 of.1

pub returns-clause-entry : goal.returns-clause-entry
returns-clause-entry c s f of own has =
    let l = c.args.code.now in
    c.in_ok-found.ensures.entry l.source f s (flow_at l c.graphs-graphs.ensures.lowered f c.graph-graph.result.now c.function_of.result own (c.function_of.ensures f s own has of.1) c.graph-graph.ensures.graph) has of.1
