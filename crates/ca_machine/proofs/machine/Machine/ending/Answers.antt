use Rattle.std.proofs.Common.{sym, subst}
use Rattle.ca_model.specs.Hardened.{Hardened}
use Rattle.ca_model.specs.Machine.{State}
use Rattle.ca_model.specs.Opening.{EndsAs}
use Rattle.ca_machine.specs.Machines.{Traced, Reaches, rules, AreParts, StandAs}
use Rattle.ca_machine.proofs.Entering.{stands_as}
use Rattle.ca_machine.proofs.machine.Machine.ending.Goals as goal

pub ending-requires : goal.ending-requires
ending-requires c = subst (AreParts c.self.inside.code c.self.inside.shared) (sym c.deref.ensures.value) c.self.invariant

pub returns : goal.returns
returns c = subst (λ (m : Traced). (s : State Hardened) → Reaches m s → EndsAs (rules m) s c.ending.result) c.self.view_is
    (λ s run. c.ending.ensures s (subst (λ ps. StandAs c.self.inside.code c.self.inside.shared ps s) (sym c.deref.ensures.value) (stands_as _ _ _ s c.self.invariant run)))
