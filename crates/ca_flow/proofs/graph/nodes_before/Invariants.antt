use Rattle.std.proofs.Common.{◌≡◌, ◌<◌, ◌++◌, ℕ, length, drop}
use Rattle.ca_flow.specs.Tables.{rows_of, row, predecessors_from}
use Rattle.ca_flow.proofs.graph.nodes_before.Given as goal

abbrev pub invariant-steps : goal.invariant-steps
invariant-steps l = record {
  number : l.from ≡ l.step-index;
  count : length l.rows.items ≡ length l.steps;
  rows : (n : ℕ) → n < length l.steps → row (rows_of l.rows.items) n ++ predecessors_from l.from n (drop l.step-index l.steps) ≡ predecessors_from 0 n l.steps;
}
