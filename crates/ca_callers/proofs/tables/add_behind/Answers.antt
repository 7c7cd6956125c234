use Rattle.ca_reach.specs.Reach.{rows_of}
use Rattle.ca_callers.proofs.Filled.{behind_added}
use Rattle.ca_callers.proofs.tables.add_behind.Goals as goal

pub returns-clause-added : goal.returns-clause-added
returns-clause-added c f at =
    behind_added c.args.code.now c.graph.ensures.lowered c.args.function f at c.graph.result.now c.links-links.result.now c.args.destroys (rows_of c.args.rows.now.items) (rows_of c.add_links.new.rows.items) c.graph.ensures.graph c.links-links.ensures c.in_ok-add_links.ensures.added
