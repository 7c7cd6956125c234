use Rattle.std.proofs.Common.{◌≡◌, ℕ, subst, arith}
use Rattle.std.specs.Prelude.{Contains, ◌↔◌}
use Rattle.ca_reach.specs.Reach.{rows_of}
use Rattle.ca_ahead.specs.Onward.{FollowsMarked}
use Rattle.ca_ahead.proofs.Growing.{follow_more}
use Rattle.ca_ahead.proofs.onward.follow_marked.Goals as goal

pub rows-preserved : goal.rows-preserved
rows-preserved c = follow_more (rows_of c.args.rows.now) c.args.marked.now c.rows.n c.rows.numbers.items c.add_row.new.numbers.items c.rows.invariant c.in_ok-add_row.ensures

pub returns : goal.returns
returns c =
    let all : c.rows.n ≡ c.args.count = omega (arith, c.rows-test.false, c.rows.auto.n-end) in
    subst (λ k. (m : ℕ) → Contains c.rows.numbers.items m ↔ FollowsMarked (rows_of c.args.rows.now) c.args.marked.now k m) all c.rows.invariant
