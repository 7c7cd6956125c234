use Rattle.std.proofs.Common.{ℕ}
use Rattle.std.specs.Prelude.{Contains, ◌↔◌}
use Rattle.ca_reach.specs.Reach.{rows_of}
use Rattle.ca_ahead.specs.Onward.{FollowsMarked}
use Rattle.ca_ahead.proofs.onward.follow_marked.Given as goal

abbrev pub invariant-rows : goal.invariant-rows
invariant-rows l = (m : ℕ) → Contains l.numbers.items m ↔ FollowsMarked (rows_of l.rows) l.marked l.n m
