use Rattle.std.proofs.Common.{◌≡◌, ◌≤◌, ℕ, sym, ap, subst, ◌∙◌}
use Rattle.std.specs.Prelude.{IsTrue, ◌↔◌}
use Rattle.std.proofs.lemmas.Bool.{le-leb, leb-true}
use Rattle.ca_model.specs.FrameCounts.{frames_below}
use Rattle.ca_model.specs.Hardened.{Hardened}
use Rattle.ca_model.specs.Machine.{State}
use Rattle.ca_model.specs.Runner.{frames_of, IsCrowded}
use Rattle.ca_flow.specs.Lowerings.{rules_of}
use Rattle.ca_machine.specs.Machines.{Traced, Reaches}
use Rattle.ca_machine.proofs.Entering.{stands_as}
use Rattle.ca_machine.proofs.machine.Machine.is_crowded.Goals as goal

many : (n m : ℕ) → n ≡ m → IsTrue (lib.Dec.leb 20000 n) ↔ (20000 ≤ m)
many n m e = ((λ b. subst (λ k. 20000 ≤ k) e (leb-true 20000 n b)), (λ le. le-leb 20000 n (subst (λ k. 20000 ≤ k) (sym e) le)))

pub returns-in-Call : goal.returns-in-Call
returns-in-Call c = subst (λ (m : Traced). (s : State Hardened) → Reaches m s → (IsTrue (lib.Dec.leb 20000 c.frames.result) ↔ IsCrowded s c.args.act.now)) c.self.view_is (λ s run.
    let st = stands_as _ _ _ s c.self.invariant run in
    let told : frames_of s ≡ frames_below c.self.inside.shared.trace s.shared.threads = (c.entries_tell_the_frames.ensures.of_hardened c.self.inside.code.source (rules_of c.self.inside.code) c.self.inside.shared.trace s run).1 in
    let is : c.frames.result ≡ frames_of s = c.frames.ensures ∙ (ap (λ x. frames_below c.self.inside.shared.trace x.threads) (sym st.same) ∙ sym told) in
    subst (λ a. IsTrue (lib.Dec.leb 20000 c.frames.result) ↔ IsCrowded s a) (sym c.in-Call.is) (many c.frames.result (frames_of s) is))

pub returns-in-Create : goal.returns-in-Create
returns-in-Create c = subst (λ (m : Traced). (s : State Hardened) → Reaches m s → (IsTrue (lib.Dec.leb 20000 c.frames-in-Create.result) ↔ IsCrowded s c.args.act.now)) c.self.view_is (λ s run.
    let st = stands_as _ _ _ s c.self.invariant run in
    let told : frames_of s ≡ frames_below c.self.inside.shared.trace s.shared.threads = (c.entries_tell_the_frames.ensures.of_hardened c.self.inside.code.source (rules_of c.self.inside.code) c.self.inside.shared.trace s run).1 in
    let is : c.frames-in-Create.result ≡ frames_of s = c.frames-in-Create.ensures ∙ (ap (λ x. frames_below c.self.inside.shared.trace x.threads) (sym st.same) ∙ sym told) in
    subst (λ a. IsTrue (lib.Dec.leb 20000 c.frames-in-Create.result) ↔ IsCrowded s a) (sym c.in-Create.is) (many c.frames-in-Create.result (frames_of s) is))
