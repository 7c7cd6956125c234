use Rattle.std.proofs.Common.{◌≡◌, ◌≤◌, [], length, take, reverse}
use Rattle.ca_model.specs.declared.values.Given.{Given}
use Rattle.ca_wants.specs.Met.{met}
use Rattle.ca_thread.specs.Gives.{collected, has}
use Rattle.ca_thread.proofs.gives.latest_first.Given as goal

abbrev pub invariant-taken : goal.invariant-taken
invariant-taken l = record {
  within : l.left ≤ length l.taken;
  same : collected l.list.items (reverse (take l.left l.taken)) ≡ collected [] (reverse l.taken);
  known : (g : Given) → met l.mutexes l.blocks g ≡ has l.list.items g;
}

abbrev pub decreases-taken : goal.decreases-taken
decreases-taken l = l.left
