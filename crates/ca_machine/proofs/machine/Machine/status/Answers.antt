use Rattle.std.proofs.Common.{ℕ, sym, subst}
use Rattle.ca_model.specs.Codes.{code_of}
use Rattle.ca_model.specs.Hardened.{Hardened}
use Rattle.ca_model.specs.Machine.{State}
use Rattle.ca_machine.specs.Machines.{Traced, Reaches, AreParts, StandAs}
use Rattle.ca_machine.specs.Coming.{IsStatusOf}
use Rattle.ca_machine.proofs.Entering.{stands_as}
use Rattle.ca_machine.proofs.machine.Machine.status.Goals as goal

pub thread_status-requires : goal.thread_status-requires
thread_status-requires c = subst (AreParts c.self.inside.code c.self.inside.shared) (sym c.deref.ensures.value) c.self.invariant

pub returns : goal.returns
returns c = subst (λ (m : Traced). (events patience : ℕ) (s : State Hardened) → Reaches m s → IsStatusOf (code_of m.source m.plan) events patience s c.args.thread c.thread_status.result) c.self.view_is
    (λ events patience s run. c.thread_status.ensures events patience s (subst (λ ps. StandAs c.self.inside.code c.self.inside.shared ps s) (sym c.deref.ensures.value) (stands_as _ _ _ s c.self.invariant run)))
