use Rattle.std.proofs.Common.{ℕ, map, take}
use Rattle.std.specs.Prelude.{Contains, ◌↔◌}
use Rattle.ca_reach.specs.Reach.{rows_of}
use Rattle.ca_callers.specs.Callers.{InOneRow}
use Rattle.ca_callers.proofs.search.in_rows.Given as goal

abbrev pub invariant-items : goal.invariant-items
invariant-items l = (m : ℕ) → Contains l.numbers.items m ↔ InOneRow (rows_of l.rows) (Contains (map (λ i. i.0) (take l.item-index l.items))) m
