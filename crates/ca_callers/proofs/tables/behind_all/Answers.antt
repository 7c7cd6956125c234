use Rattle.std.proofs.Common.{arith}
use Rattle.ca_callers.proofs.Filled.{higher_turn, higher_end}
use Rattle.ca_callers.proofs.tables.behind_all.Goals as goal

pub graphs-preserved : goal.graphs-preserved
graphs-preserved c = higher_turn c.args.graphs.now c.graphs.graph-index c.graph-item.result c.graphs.above c.higher-above.result c.graphs-test.true c.graph-item.is c.graphs.invariant c.higher-above.ensures.least c.higher-above.ensures.graph

pub returns : goal.returns
returns c = higher_end c.args.graphs.now c.graphs.graph-index c.graphs.above (omega (arith, c.graphs-test.false)) c.graphs.invariant
