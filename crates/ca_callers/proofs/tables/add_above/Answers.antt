use Rattle.ca_reach.specs.Reach.{rows_of}
use Rattle.ca_callers.proofs.Filled.{above_added}
use Rattle.ca_callers.proofs.tables.add_above.Goals as goal

pub returns-clause-added : goal.returns-clause-added
returns-clause-added c f at =
    above_added c.args.code.now c.graph.ensures.lowered c.args.function f at c.graph.result.now c.first-first.result c.calls_of.result.now (rows_of c.args.rows.now.items) (rows_of c.add_calls.new.rows.items) c.graph.ensures.graph c.first-first.ensures (λ b. let is = (c.is_start.ensures f at).1 b in let no = c.if-is_start.false in cc)
    c.calls_of.ensures.calls c.in_ok-add_calls.ensures.added
