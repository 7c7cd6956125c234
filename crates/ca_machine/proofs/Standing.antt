-- What comes for a thread of a machine's parts, and what the thread may do.
use Rattle.std.proofs.Common.{◌≡◌, ◌<◌, ◌^◌, ℕ, List, length, Option, Some, None, refl, sym, ap, subst, ◌∙◌, arith, get_or, true}
use Rattle.std.specs.Prelude.{nat_lt, slice_get}
use Rattle.std.proofs.lemmas.Bool.{ltb-true}
use Rattle.std.proofs.lemmas.Option.{slice_get_read}
use Rattle.ca_model.specs.declared.values.Event.{Event}
use Rattle.ca_model.specs.declared.values.EventAct.{EventAct}
use Rattle.ca_model.specs.Shared.{Shared}
use Rattle.ca_model.specs.Machine.{State}
use Rattle.ca_model.specs.Hardened.{Hardened, hardened}
use Rattle.ca_model.specs.Runner.{IsLeastUnused}
use Rattle.ca_model.specs.ComingEntries.{EndedBelow, entry_of}
use Rattle.ca_flow.specs.Lowerings.{Lowering, rules_of}
use Rattle.ca_shared.specs.Histories.{History, state}
use Rattle.ca_shared.specs.Legal.{IsWellKept}
use Rattle.ca_thread.specs.Privates.{Thread}
use Rattle.ca_machine.specs.Machines.{IsAt, StandAs}
use Rattle.ca_machine.specs.Coming.{IsRunning, IsStatus, IsStatusOf, IsComing}
use Rattle.ca_machine.specs.declared.coming.Status.{Status}
use Rattle.ca_machine.proofs.Entering.{threaded}
use Rattle.ca_machine.proofs.Comings.{none_comes, coming_so, status_so}

-- the entry that comes, as the thread by itself and the shared state tell it
abbrev pub entry_at : Lowering → History → ℕ → ℕ → Hardened → Option EventAct
entry_at code shared t k h = entry_of (rules_of code) (state shared) t k h

-- there is a private state for each thread that runs
pub private_there : (code : Lowering) (shared : History) (ps : List Thread) (s : State Hardened) (t : ℕ) → StandAs code shared ps s → IsRunning s t → t < length ps
private_there code shared ps s t st run =
    let there : t < s.shared.threads = run.there in
    let counted : s.shared.threads ≡ length s.threads = st.counted in
    let many : length ps ≡ length s.threads = st.as_many in
    omega arith

-- and it is read at its place
pub private_at : (code : Lowering) (shared : History) (ps : List Thread) (s : State Hardened) (t : ℕ) (p : Thread) → StandAs code shared ps s → IsRunning s t → p ≡ get_or ps t p → slice_get ps t ≡ Some p
private_at code shared ps s t p st run is = slice_get_read ps (length ps) t p refl (private_there code shared ps s t st run) is

pub found : (ps : List Thread) (t : ℕ) (p : Thread) → true ≡ nat_lt t (length ps) → p ≡ get_or ps t p → slice_get ps t ≡ Some p
found ps t p lt is = slice_get_read ps (length ps) t p refl (ltb-true t (length ps) (sym lt)) is

module _ (code : Lowering) (shared : History) (ps : List Thread) (s : State Hardened) (t k : ℕ) (p : Thread) (st : StandAs code shared ps s) (at : slice_get ps t ≡ Some p)
    (used : IsLeastUnused (state shared).blocks k) (few : k < 2 ^ 32) (kept : IsWellKept (state shared)) (run : IsRunning s t) where
  used_here : IsLeastUnused s.shared.blocks k
  used_here = subst (λ (x : Shared). IsLeastUnused x.blocks k) (sym st.same) used

  ended_here : EndedBelow s.shared
  ended_here = subst EndedBelow (sym st.same) (kept.made (sym (ap (λ (x : Shared). x.phase) st.same) ∙ run.run))

  same_entry : (h : Hardened) (l : Lowering) (n : ℕ) → l ≡ code → n ≡ t → entry_at l shared n k h ≡ entry_of (rules_of code) s.shared t k h
  same_entry h l n i j = ap (λ (c : Lowering). entry_at c shared n k h) i ∙ (ap (λ m. entry_at code shared m k h) j ∙ ap (λ x. entry_of (rules_of code) x t k h) (sym st.same))

  pub status_at : (x : Status) → ((h : Hardened) (k : ℕ) → IsAt p h → IsStatus (entry_at p.code shared p.thread k h) ((hardened (rules_of p.code)).want h) x) → (events patience : ℕ) → IsStatusOf (rules_of code) events patience s t x
  status_at x tells events patience =
      let m = threaded code shared ps s t p st at in
      let h = m.0 in
      let told : IsStatus (entry_of (rules_of code) s.shared t k h) ((hardened (rules_of p.code)).want h) x = subst (λ o. IsStatus o ((hardened (rules_of p.code)).want h) x) (same_entry h p.code p.thread m.2.code m.2.number) (tells h k m.2.stands) in
      status_so (rules_of code) events patience s t k h used_here few ended_here run m.1 x (subst (λ (c : Lowering). IsStatus (entry_of (rules_of code) s.shared t k h) ((hardened (rules_of c)).want h) x) m.2.code told)

  module _ (o : Option EventAct) (tells : (h : Hardened) (k : ℕ) → IsAt p h → IsLeastUnused (state shared).blocks k → o ≡ entry_at p.code shared p.thread k h) where
    is_entry : (h : Hardened) → slice_get s.threads t ≡ Some h → o ≡ entry_of (rules_of code) s.shared t k h
    is_entry h there = let i = st.each t p h at there in tells h k i.stands used ∙ same_entry h p.code p.thread i.code i.number

    pub none_at : o ≡ None → (events patience : ℕ) → IsComing (rules_of code) events patience s t None
    none_at is events patience =
        let m = threaded code shared ps s t p st at in
        none_comes (rules_of code) events patience s t k m.0 used_here few ended_here run m.1 (sym (is_entry m.0 m.1) ∙ is)

    pub coming_at : (e : Event) → e.thread ≡ t → o ≡ Some e.act → (events patience : ℕ) → IsComing (rules_of code) events patience s t (Some e)
    coming_at e same is events patience =
        let m = threaded code shared ps s t p st at in
        coming_so (rules_of code) events patience s t k m.0 used_here few ended_here run m.1 e same (sym (is_entry m.0 m.1) ∙ is)
