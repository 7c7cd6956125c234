use Rattle.std.proofs.Common.{◌≡◌, [], replicate}
use Rattle.ca_flow.specs.Tables.{rows_of}
use Rattle.ca_flow.proofs.rows.empty_rows.Given as goal

abbrev pub invariant-rows : goal.invariant-rows
invariant-rows g l = rows_of l.rows.items ≡ replicate l.counter []
