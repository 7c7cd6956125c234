use Rattle.ca_ahead.proofs.Sources.{call_exact}
use Rattle.ca_ahead.proofs.layers.has_call.Goals as goal

pub returns-then-is_left : goal.returns-then-is_left
returns-then-is_left c f at =
    let calls = call_exact c.args.code.now c.graphs-graphs.ensures.lowered c.args.function f c.calls_of-calls.result.now c.args.marked.now c.args.above.now at c.calls_of-calls.ensures.calls in (
      (λ is. ((c.is_left.ensures f at).0 c.if-is_left.true, calls.0 (c.has_either.ensures.0 is))),
      (λ h. c.has_either.ensures.1 (calls.1 h.1)),
    )
