-- The entry that comes for a thread of a state, and what the thread may do there.
use Rattle.std.proofs.Common.{◌≡◌, ◌<◌, ◌^◌, ℕ, [], Option, Some, None, sym, ap, subst, ◌∙◌, arith, inl, inr}
use Rattle.std.specs.Prelude.{slice_get}
use Rattle.ca_model.specs.declared.values.Event.{Event}
use Rattle.ca_model.specs.declared.values.EventAct.{EventAct}
use Rattle.ca_model.specs.Frames.{Code}
use Rattle.ca_model.specs.Private.{stand}
use Rattle.ca_model.specs.Machine.{State}
use Rattle.ca_model.specs.Waits.{CanMove}
use Rattle.ca_model.specs.Hardened.{Hardened, hardened}
use Rattle.ca_model.specs.Runner.{IsLeastUnused, IsTimeout, Comes}
use Rattle.ca_model.specs.ComingEntries.{EndedBelow, entry_of}
use Rattle.ca_model.proofs.Law.{one_of}
use Rattle.ca_model.proofs.MayCome.{decide}
use Rattle.ca_model.proofs.OneEntry.{comes_as, one_event}
use Rattle.ca_model.proofs.EnabledThreads.{comes, step_comes}
use Rattle.ca_machine.specs.Coming.{IsRunning, IsStatus, IsStatusOf, IsComing}
use Rattle.ca_machine.specs.declared.coming.Status.{Status}
use Rattle.ca_machine.specs.declared.coming.Status.TheVariants as status

some_none : {A : Type 0} (x : A) (o : Option A) → o ≡ None → o ≡ Some x → ⊥
some_none x o e f = let no : None ≡ Some x = sym e ∙ f in absurd cc

module _ (code : Code) (events patience : ℕ) (s : State Hardened) (t : ℕ) where
  -- no entry of a thread comes that isn't running
  pub runs : (a : EventAct) (new : State Hardened) → Comes code events patience s t a new → IsRunning s t
  runs a new c = record { run = c.step.legal.run; there = c.step.legal.there; going = c.step.legal.going }

  pub none_rests : (IsRunning s t → ⊥) → IsStatusOf code events patience s t status.Rests
  none_rests none = ((λ (a, new, c, w). none (runs a new c)), (λ (a, new, c, w). none (runs a new c)))

  module _ (k : ℕ) (h : Hardened) (used : IsLeastUnused s.shared.blocks k) (few : k < 2 ^ 32) (ended : EndedBelow s.shared) (run : IsRunning s t) (stands : slice_get s.threads t ≡ Some h) where
    stands_so : (a : EventAct) (new : State Hardened) (c : Comes code events patience s t a new) → c.step.before ≡ h
    stands_so a new c = one_of c.step.before h (sym c.step.stands ∙ stands)

    -- what comes is the one entry
    is_one : (a : EventAct) (new : State Hardened) → Comes code events patience s t a new → entry_of code s.shared t k h ≡ Some a
    is_one a new c = ap (entry_of code s.shared t k) (sym (stands_so a new c)) ∙ comes_as code events patience s t k used ended a new c

    pub none_comes : entry_of code s.shared t k h ≡ None → (a : EventAct) (new : State Hardened) → Comes code events patience s t a new → ⊥
    none_comes none a new c = some_none a (entry_of code s.shared t k h) none (is_one a new c)

    pub comes_so : (a : EventAct) → entry_of code s.shared t k h ≡ Some a → (new : State Hardened) × Comes code events patience s t a new
    comes_so a is = elim (decide code h s.shared t k (stand code h.frames).go used few (let there = run.there in omega arith) (stand code h.frames).want) [
      | inl (b, p) ↦
          let c = comes code events patience s [] k used few ended run.run t h stands run.there run.going b p in
          subst (λ x. (new : State Hardened) × Comes code events patience s t x new) (one_of b a (sym (is_one b c.0 c.1) ∙ is)) c
      | inr none ↦ absurd (some_none a (entry_of code s.shared t k h) none is)
    ]

    late : (a : EventAct) (new : State Hardened) (c : Comes code events patience s t a new) → IsTimeout a ((hardened code).want h) → IsTimeout a ((hardened code).want c.step.before)
    late a new c w = subst (λ x. IsTimeout a ((hardened code).want x)) (sym (stands_so a new c)) w

    same_late : (a b : EventAct) (new other : State Hardened) (c : Comes code events patience s t a new) (d : Comes code events patience s t b other) → IsTimeout b ((hardened code).want d.step.before) → IsTimeout a ((hardened code).want h)
    same_late a b new other c d w =
        subst (λ e. IsTimeout e ((hardened code).want h)) (sym (one_event code events patience s t k used ended a b new other c d)) (subst (λ x. IsTimeout b ((hardened code).want x)) (stands_so b other d) w)

    pub status_so : (x : Status) → IsStatus (entry_of code s.shared t k h) ((hardened code).want h) x → IsStatusOf code events patience s t x
    status_so status.Rests none = ((λ (a, new, c, w). none_comes none a new c), (λ (a, new, c, w). none_comes none a new c))
    status_so status.Moves (a, is, never) =
        let c = comes_so a is in
        ((a, c.0, c.1, λ w. never (same_late a a c.0 c.0 c.1 c.1 w)), (λ (b, other, d, w). never (same_late a b c.0 other c.1 d w)))
    status_so status.TimesOut (a, is, w) =
        let c = comes_so a is in
        ((λ (b, other, d, never). never (same_back b other d c)), (a, c.0, c.1, late a c.0 c.1 w))
      where
        same_back : (b : EventAct) (other : State Hardened) (d : Comes code events patience s t b other) → (new : State Hardened) × Comes code events patience s t a new → IsTimeout b ((hardened code).want d.step.before)
        same_back b other d (new, c) = late b other d (subst (λ e. IsTimeout e ((hardened code).want h)) (one_event code events patience s t k used ended a b new other c d) w)

    pub coming_so : (e : Event) → e.thread ≡ t → entry_of code s.shared t k h ≡ Some e.act → IsComing code events patience s t (Some e)
    coming_so e same is = (same, comes_so e.act is)

    -- where a step of the thread is possible, an entry comes
    pub can_come : CanMove (hardened code) s t → (a : EventAct) × (new : State Hardened) × Comes code events patience s t a new
    can_come (a, new, st) = step_comes code events patience s [] k used few ended run.run t a new st
