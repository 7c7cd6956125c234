use Rattle.ca_reach.specs.Reach.{rows_of}
use Rattle.ca_callers.proofs.Filled.{begun_added}
use Rattle.ca_callers.proofs.tables.add_begun.Goals as goal

pub returns-clause-added : goal.returns-clause-added
returns-clause-added c f at =
    begun_added c.args.code.now c.graph.ensures.lowered c.args.function f at c.graph.result.now c.first-first.result (rows_of c.args.rows.now.items) (rows_of c.add.new.rows.items) c.graph.ensures.graph c.first-first.ensures c.in_ok-add.ensures.added
