use Rattle.std.proofs.Common.{◌<◌, ℕ}
use Rattle.ca_model.specs.Hardened.{Hardened}
use Rattle.ca_model.specs.Machine.{State}
use Rattle.ca_flow.specs.Lowerings.{rules_of}
use Rattle.ca_machine.specs.Machines.{StandAs}
use Rattle.ca_machine.specs.Coming.{IsStatusOf}
use Rattle.ca_machine.specs.declared.coming.Status.TheVariants as status
use Rattle.ca_machine.proofs.endings.can_step.Given as goal

-- the threads so far rest
abbrev pub invariant-threads : goal.invariant-threads
invariant-threads l = (t : ℕ) → t < l.thread → (s : State Hardened) → StandAs l.code l.shared l.privates s → IsStatusOf (rules_of l.code) 0 0 s t status.Rests
