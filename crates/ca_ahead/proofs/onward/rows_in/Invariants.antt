use Rattle.std.proofs.Common.{[], take, replicate}
use Rattle.ca_reach.specs.Reach.{rows_of}
use Rattle.ca_ahead.specs.Onward.{InGraphs, Grows}
use Rattle.ca_ahead.proofs.onward.rows_in.Given as goal

abbrev pub invariant-graphs : goal.invariant-graphs
invariant-graphs l = Grows (replicate l.count []) (rows_of l.rows.items) (λ n m. InGraphs (take l.graph-index l.graphs) n m)
