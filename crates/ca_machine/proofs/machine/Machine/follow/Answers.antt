use Rattle.std.proofs.Common.{subst}
use Rattle.ca_model.specs.Hardened.{Hardened}
use Rattle.ca_model.specs.Machine.{State, Step}
use Rattle.ca_machine.specs.Machines.{Traced, Reaches, rules}
use Rattle.ca_machine.specs.Moves.{Decides}
use Rattle.ca_machine.proofs.Entering.{stands_as}
use Rattle.ca_machine.proofs.machine.Machine.follow.Goals as goal

pub returns-clause-exact : goal.returns-clause-exact
returns-clause-exact c = subst (λ (m : Traced). (s : State Hardened) → Reaches m s → Decides c.enter.result ((new : State Hardened) × Step (rules m) s c.args.event.now new)) c.self.view_is (λ s run. c.enter.ensures.exact s (stands_as _ _ _ s c.self.invariant run))
