use Rattle.std.proofs.Common.{ℕ, map, take}
use Rattle.std.specs.Prelude.{Contains, ◌↔◌}
use Rattle.ca_reach.specs.Reach.{rows_of}
use Rattle.ca_callers.specs.Callers.{IsClosed}
use Rattle.ca_callers.proofs.search.closed.Given as goal

abbrev pub invariant-items : goal.invariant-items
invariant-items l = (n : ℕ) → Contains (map (λ i. i.0) l.some.items) n ↔ (Contains (map (λ i. i.0) (take l.item-index l.items)) n × IsClosed (rows_of l.above) l.last n)
