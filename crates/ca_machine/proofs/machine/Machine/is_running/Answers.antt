use Rattle.std.proofs.Common.{◌≡◌, ◌<◌, length, Some, subst, arith}
use Rattle.std.specs.Prelude.{IsTrue, ◌↔◌, slice_get}
use Rattle.ca_model.specs.Hardened.{Hardened}
use Rattle.ca_model.specs.Machine.{State}
use Rattle.ca_model.proofs.Law.{get_one}
use Rattle.ca_machine.specs.Machines.{Traced, Reaches}
use Rattle.ca_machine.specs.Coming.{IsRunning}
use Rattle.ca_machine.proofs.Entering.{stands_as}
use Rattle.ca_machine.proofs.machine.Machine.is_running.Goals as goal

pub returns-clause-running : goal.returns-clause-running
returns-clause-running c = subst (λ (m : Traced). (s : State Hardened) → Reaches m s → (IsTrue c.is_running.result ↔ IsRunning s c.args.thread)) c.self.view_is (λ s run. c.is_running.ensures s (stands_as _ _ _ s c.self.invariant run).same)

pub returns-clause-stands : goal.returns-clause-stands
returns-clause-stands c is = subst (λ (m : Traced). (s : State Hardened) → Reaches m s → (h : Hardened) × (slice_get s.threads c.args.thread ≡ Some h)) c.self.view_is (λ s run.
    let st = stands_as _ _ _ s c.self.invariant run in
    let there : c.args.thread < s.shared.threads = ((c.is_running.ensures s st.same).0 is).there in
    let counted : s.shared.threads ≡ length s.threads = st.counted in
    let within : c.args.thread < length s.threads = omega arith in
    get_one s.threads c.args.thread within)
