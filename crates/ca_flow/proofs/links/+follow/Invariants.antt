use Rattle.std.proofs.Common.{◌≡◌, ◌++◌, reverse, ◌≤◌, length, drop}
use Rattle.ca_model.specs.Links.{Ways}
use Rattle.ca_flow.specs.Linked.{AreWays, links_from_all, first_of_all}
use Rattle.ca_flow.proofs.links.+follow.Given as goal

abbrev pub invariant-follow_all-back : goal.invariant-follow_all-back
invariant-follow_all-back l = record {
  within : l.left ≤ length l.ss;
  first : (w : Ways) → AreWays w l.fn.next l.leave l.again → l.first ≡ first_of_all (drop l.left l.ss) w;
  added : (w : Ways) → AreWays w l.fn.next l.leave l.again → reverse l.links.items ≡ links_from_all (drop l.left l.ss) w ++ reverse l.fn.links.items;
}

abbrev pub decreases-follow_all-back : goal.decreases-follow_all-back
decreases-follow_all-back l = l.left
