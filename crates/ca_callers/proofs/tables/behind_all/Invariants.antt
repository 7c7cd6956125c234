use Rattle.std.proofs.Common.{◌<◌, ◌+◌, ℕ, take}
use Rattle.std.specs.Prelude.{Contains}
use Rattle.ca_flow.specs.Graphs.{ControlFlow}
use Rattle.ca_callers.proofs.tables.behind_all.Given as goal

abbrev pub invariant-graphs : goal.invariant-graphs
invariant-graphs l = (g : ControlFlow) (n : ℕ) → Contains (take l.graph-index l.graphs) g → n < g.lowest + g.count → n < 4294967295 → n < l.above
