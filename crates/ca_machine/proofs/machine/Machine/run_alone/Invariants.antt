use Rattle.std.proofs.Common.{◌≤◌, ◌-◌, length}
use Rattle.ca_model.specs.Hardened.{Hardened}
use Rattle.ca_model.specs.Machine.{State}
use Rattle.ca_machine.specs.Machines.{Reaches}
use Rattle.ca_machine.specs.Runs.{IsAlong}
use Rattle.ca_machine.proofs.machine.Machine.run_alone.Given as goal

-- the entries so far begin what the runner gives
abbrev pub invariant-turns : goal.invariant-turns
invariant-turns l = record {
  within : length l.self.trace ≤ l.events;
  along : (s : State Hardened) → Reaches l.fn.self s → IsAlong l.events l.patience l.fn.self l.self l.fn.schedule l.schedule s;
}

-- the entries that the limit leaves
abbrev pub decreases-turns : goal.decreases-turns
decreases-turns l = l.events - length l.self.trace
