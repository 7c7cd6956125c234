use Rattle.std.proofs.Common.{◌≡◌, ◌-◌, ◌^◌, ◌∷◌, List, length}
use Rattle.ca_model.specs.declared.values.Event.{Event}
use Rattle.ca_check.specs.Ways.{IsOnWay, IsBeside}
use Rattle.ca_check.proofs.lifting.save.Given as goal

-- a machine that is on its way to an entry of the thread stays on it
abbrev pub invariant-saves : goal.invariant-saves
invariant-saves l = record {
  beside : IsBeside l.initial.machine l.machine;
  on : (events left : List Event) (e : Event) → e.thread ≡ l.thread → IsOnWay l.initial.machine events (e ∷ left) → IsOnWay l.machine events (e ∷ left);
}

-- a trace has fewer than 2 ^ 64 entries
abbrev pub decreases-saves : goal.decreases-saves
decreases-saves l = 2 ^ 64 - length l.machine.trace
