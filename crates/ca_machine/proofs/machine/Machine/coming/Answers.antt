use Rattle.std.proofs.Common.{ℕ, sym, subst}
use Rattle.std.specs.Prelude.{Result, Ok, Err, IfOk}
use Rattle.ca_model.specs.Codes.{code_of}
use Rattle.ca_model.specs.Hardened.{Hardened}
use Rattle.ca_model.specs.Machine.{State}
use Rattle.ca_flow.specs.Lowerings.{rules_of}
use Rattle.ca_machine.specs.Machines.{Traced, Reaches, AreParts, StandAs}
use Rattle.ca_machine.specs.Coming.{IsComing}
use Rattle.ca_machine.proofs.Entering.{stands_as}
use Rattle.ca_machine.proofs.machine.Machine.coming.Goals as goal

pub coming_event-requires : goal.coming_event-requires
coming_event-requires c = subst (AreParts c.self.inside.code c.self.inside.shared) (sym c.deref.ensures.value) c.self.invariant

if_ok : {T E : Type 0} (P Q : T → Type 0) (r : Result T E) → ((x : T) → P x → Q x) → IfOk r P → IfOk r Q
if_ok P Q (Ok x) f h = f x h
if_ok P Q (Err e) f h = h

pub returns : goal.returns
returns c = subst (λ (m : Traced). IfOk c.coming_event.result (λ o. (events patience : ℕ) (s : State Hardened) → Reaches m s → IsComing (code_of m.source m.plan) events patience s c.args.thread o)) c.self.view_is
    (if_ok (λ o. (events patience : ℕ) (s : State Hardened) → StandAs c.self.inside.code c.self.inside.shared c.deref.result.now s → IsComing (rules_of c.self.inside.code) events patience s c.args.thread o) _ c.coming_event.result
    (λ o h events patience s run. h events patience s (subst (λ ps. StandAs c.self.inside.code c.self.inside.shared ps s) (sym c.deref.ensures.value) (stands_as _ _ _ s c.self.invariant run))) c.coming_event.ensures)
