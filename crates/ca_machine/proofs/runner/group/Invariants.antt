use Rattle.std.proofs.Common.{◌<◌, ℕ}
use Rattle.std.specs.Prelude.{All}
use Rattle.std.specs.List.Sorted.{IsStrictlyIncreasing}
use Rattle.ca_model.specs.Hardened.{Hardened}
use Rattle.ca_model.specs.Machine.{State}
use Rattle.ca_machine.specs.Machines.{Reaches}
use Rattle.ca_machine.specs.Runs.{AreBelow}
use Rattle.ca_machine.proofs.runner.group.Given as goal

-- the threads so far
abbrev pub invariant-threads : goal.invariant-threads
invariant-threads l = record {
  ascend : IsStrictlyIncreasing l.list.items;
  below : All (λ u. u < l.thread) l.list.items;
  exactly : (events : ℕ) (s : State Hardened) → Reaches l.machine s → AreBelow events l.patience l.machine s l.late l.thread l.list.items;
}
