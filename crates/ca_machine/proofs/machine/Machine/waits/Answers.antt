use Rattle.std.proofs.Common.{sym, subst}
use Rattle.ca_model.specs.Hardened.{Hardened}
use Rattle.ca_model.specs.Machine.{State}
use Rattle.ca_machine.specs.Machines.{Traced, Reaches, rules, AreParts, StandAs}
use Rattle.ca_machine.specs.Coming.{IsWaitOf}
use Rattle.ca_machine.proofs.Entering.{stands_as}
use Rattle.ca_machine.proofs.machine.Machine.waits.Goals as goal

pub wait-requires : goal.wait-requires
wait-requires c = subst (AreParts c.self.inside.code c.self.inside.shared) (sym c.deref.ensures.value) c.self.invariant

pub returns : goal.returns
returns c = subst (λ (m : Traced). (s : State Hardened) → Reaches m s → IsWaitOf s (rules m).want c.args.thread c.wait.result) c.self.view_is
    (λ s run. c.wait.ensures s (subst (λ ps. StandAs c.self.inside.code c.self.inside.shared ps s) (sym c.deref.ensures.value) (stands_as _ _ _ s c.self.invariant run)))
