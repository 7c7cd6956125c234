use Rattle.ca_reach.specs.Reach.{rows_of}
use Rattle.ca_ahead.proofs.Sources.{rows_long, rows_exact}
use Rattle.ca_ahead.proofs.onward.onward_rows.Goals as goal

pub returns-clause-length : goal.returns-clause-length
returns-clause-length c = rows_long c.args.code.now c.graphs-graphs.ensures.lowered c.args.count (rows_of c.in_ok-rows.rows.items) c.graphs-graphs.result.now c.requires c.graphs-graphs.ensures.graphs c.in_ok-rows.ensures

pub returns-clause-exact : goal.returns-clause-exact
returns-clause-exact c = rows_exact c.args.code.now c.graphs-graphs.ensures.lowered c.args.count (rows_of c.in_ok-rows.rows.items) c.graphs-graphs.result.now c.requires c.graphs-graphs.ensures.graphs c.in_ok-rows.ensures
