use Rattle.std.proofs.Common.{subst, arith}
use Rattle.ca_model.specs.declared.plan.Plan.{Plan}
use Rattle.ca_flow.specs.Lowerings.{IsGraphUnder}
use Rattle.ca_lower.proofs.FunctionsAdded.{one_more_graph}
use Rattle.ca_lower.proofs.lowering.lower.Goals as goal

pub functions-preserved : goal.functions-preserved
functions-preserved c =
    one_more_graph c.args.checked.now.typed c.args.plan.now c.functions.graphs.items _ _ c.functions.f _ (omega arith) c.in_ok-push.ensures.items c.functions.invariant
    (λ f at. subst (λ (p : Plan). IsGraphUnder c.args.checked.now.typed p f c.in_ok-graph.graph) c.in_ok-tables.ensures.plan (c.in_ok-graph.ensures f at))
