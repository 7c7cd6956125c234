use Rattle.std.proofs.Common.{ap, ◌∙◌, refl}
use Rattle.ca_model.specs.Codes.{Typed}
use Rattle.ca_lower.proofs.FunctionsAdded.{graph_of_function}
use Rattle.ca_lower.proofs.functions.graph_of.Goals as goal

pub returns : goal.returns
returns c fn at =
    graph_of_function c.args.checked.now.typed c.args.tables.now.plan c.new-scope.result c.function-function.result.now c.args.f.0 fn _ _ c.in_ok-entry.entry _
    (c.new-scope.ensures ∙ ap (λ (p : Typed). record { source = p; plan = c.args.tables.now.plan; function = c.function-function.result.now }) c.requires.source)
    c.function-function.ensures at c.new.ensures.items refl c.known.ensures.bounded c.known.ensures.there c.in_ok-entry.ensures.adds c.in_ok-entry.ensures.grows c.in_ok-entry.ensures.sites
    c.in_ok-graph.ensures.steps c.in_ok-graph.ensures.entry c.in_ok-graph.ensures.registers (c.in_ok-graph.ensures.flow fn at)
