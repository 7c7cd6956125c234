use Rattle.std.proofs.Common.{◌≡◌, map, take}
use Rattle.ca_flow.specs.Graphs.{targets}
use Rattle.ca_flow.specs.Tables.{rows_of}
use Rattle.ca_flow.proofs.graph.nodes_after.Given as goal

abbrev pub invariant-steps : goal.invariant-steps
invariant-steps l = rows_of l.rows.items ≡ map (λ s. targets s.links) (take l.step-index l.steps)
