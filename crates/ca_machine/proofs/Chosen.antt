-- A step of a chosen thread: the entry that comes, with another value of a `malloc`, or a retry by choice.
use Rattle.std.proofs.Common.{◌≡◌, ◌<◌, ◌^◌, ℕ, Bool, true, false, Option, Some, None, refl, sym, ap, subst, ◌∙◌, inl, inr}
use Rattle.std.specs.Prelude.{◌⊎◌, ℤ, slice_get, is_some}
use Rattle.std.specs.Ordering.{int_eq}
use Rattle.std.proofs.lemmas.Bool.{cases_Bool}
use Rattle.ca_tree.specs.declared.numbers.SiteId.{SiteId}
use Rattle.ca_model.specs.declared.values.Value.{Value}
use Rattle.ca_model.specs.declared.values.EventAct.{EventAct}
use Rattle.ca_model.specs.declared.values.EventAct.TheVariants as act
use Rattle.ca_model.specs.Asks.{Want, Locks, Mallocs}
use Rattle.ca_model.specs.Frames.{Code}
use Rattle.ca_model.specs.Private.{stand, when, answer, going_on}
use Rattle.ca_model.specs.Shared.{Shared, CanMake, effect}
use Rattle.ca_model.specs.Codes.{code_of}
use Rattle.ca_model.specs.Machine.{State, threads_after}
use Rattle.ca_model.specs.Hardened.{Hardened, hardened, retry_site, taking, took, with_frames, FailsNow}
use Rattle.ca_model.specs.Runner.{Comes, IsLeastUnused, IsTimeout}
use Rattle.ca_model.specs.ComingEntries.{EndedBelow}
use Rattle.ca_model.specs.Waits.{WaitsAt, CanMove, HardenedWaits}
use Rattle.ca_model.proofs.Creates.{frames_some}
use Rattle.ca_model.proofs.OneEntry.{answer_some, if_some}
use Rattle.ca_machine.specs.Machines.{Traced}
use Rattle.ca_machine.specs.Coming.{IsRunning, IsComing, IsWaitOf, IsWaitAt}
use Rattle.ca_machine.specs.Choices.{IsFresh, IsChosenBy, IsBlocked, IsStepBy}
use Rattle.ca_machine.proofs.Comings.{can_come}
use Rattle.ca_machine.specs.declared.choices.Choice.{Choice}
use Rattle.ca_machine.specs.declared.waits.Waits.{Waits}

-- a `malloc` may give another value
other_value : (w : Want) (n : ℤ) (x y z : Value) → answer w (act.Malloc n x) ≡ Some z → answer w (act.Malloc n y) ≡ Some y
other_value (Mallocs cells i) n x y z e = ap (λ b. when b y) (if_some (int_eq cells n) (Some x) z e).0
other_value _ n x y z e = absurd cc

-- an entry that is no `malloc`
abbrev pub IsOther : EventAct → Type 0
IsOther (act.Malloc n x) = ⊥
IsOther _ = Unit {0}

pub is_other : (a : EventAct) → ((n : ℤ) (x : Value) → a ≡ act.Malloc n x → ⊥) → IsOther a
is_other (act.Malloc n x) none = absurd (none n x refl)
is_other _ none = tt

by_choice : (c : Choice) (s : Shared) (w : Want) (a : EventAct) → IsOther a → (IsTimeout a w → c.timeout ≡ true) → IsChosenBy c s w a
by_choice c s w (act.Malloc n x) o late = absurd o
by_choice c s w _ o late = late

-- whether a thread is blocked, by whether it waits
module _ (code : Code) (s : State Hardened) (t : ℕ) (timeout : Bool) where
  pub blocked_so : (h : Hardened) (o : Option Waits) → slice_get s.threads t ≡ Some h → IsRunning s t → IsWaitOf s (hardened code).want t o → (retry_site code h ≡ None) ⊎ (timeout ≡ false) → IsBlocked code s h timeout o
  blocked_so h o there run waits why = elim (waits.there h there) [
    | inl (open', w) ↦ told o w
    | inr (closed', e) ↦ absurd (closed' run.run)
  ]
    where
      told : (o : Option Waits) → IsWaitAt s.shared ((hardened code).want h) o → IsBlocked code s h timeout o
      told (Some x) w = (w, why)
      told None w = λ at why'. w at

  -- one that may retry and does isn't
  pub retries_so : (h : Hardened) → timeout ≡ true → true ≡ is_some (retry_site code h) → IsBlocked code s h timeout None
  retries_so h late some waits (inl none) = let no : true ≡ false = some ∙ ap is_some none in absurd cc
  retries_so h late some waits (inr early) = let no : true ≡ false = sym late ∙ early in absurd cc

  pub none_site : (o : Option SiteId) → false ≡ is_some o → o ≡ None
  none_site None e = refl
  none_site (Some x) e = absurd cc

module _ (m : Traced) (s : State Hardened) (t : ℕ) (c : Choice) where
  abbrev code : Code
  code = code_of m.source m.plan

  pub malloc_by : (events patience : ℕ) (n : ℤ) (x y : Value) (new : State Hardened) → Comes code events patience s t (act.Malloc n x) new → CanMake s.shared.blocks n y → IsFresh c.fresh s.shared.blocks n y → IsStepBy m s t c (act.Malloc n y)
  malloc_by events patience n x y new co can is =
      let h = co.step.before in
      let st = stand code h.frames in
      let frames = frames_some (going_on st (answer st.want (act.Malloc n x))) (taking code st.want (act.Malloc n x)) h.saved co.step.after co.step.own in
      let value = answer_some st (answer st.want (act.Malloc n x)) frames.0 frames.1 in
      let given : answer st.want (act.Malloc n y) ≡ Some y = other_value st.want n x y value.0 value.1 in
      let after : Hardened = record { frames = st.go y; saved = took (taking code st.want (act.Malloc n y)) h.saved } in
      record {
        new = record { shared = effect s.shared t (act.Malloc n y); threads = threads_after (hardened code) s.threads t st.want (act.Malloc n y) after };
        step = record {
          before = h;
          after = after;
          stands = co.step.stands;
          own = ap (λ o. with_frames (going_on st o) (taking code st.want (act.Malloc n y)) h.saved) given;
          legal = record { run = co.step.legal.run; there = co.step.legal.there; going = co.step.legal.going; allowed = can };
          due = tt;
          shared = refl;
          threads = refl;
        };
        chosen = is;
      }

  -- a retry at a held lock is one that is chosen, where the thread isn't blocked
  late_chosen : (h : Hardened) (a : EventAct) → ((hardened code).Due s.shared t h a) → IsBlocked code s h c.timeout None → IsTimeout a ((hardened code).want h) → c.timeout ≡ true
  late_chosen h a due free late = elim (cases_Bool c.timeout) [
    | inl yes' ↦ yes'
    | inr no' ↦ absurd (free (held a ((hardened code).want h) refl due late) (inr no'))
  ]
    where
      held : (a : EventAct) (w : Want) → (hardened code).want h ≡ w → ((hardened code).Due s.shared t h a) → IsTimeout a w → WaitsAt s.shared w
      held (act.Retry site gives) (Locks n site' i) is due late = subst (FailsNow s.shared t) is due.0
      held _ _ is due late = absurd late

  pub other_by : (events patience : ℕ) (a : EventAct) (new : State Hardened) → (co : Comes code events patience s t a new) → IsOther a → ((h : Hardened) → slice_get s.threads t ≡ Some h → IsBlocked code s h c.timeout None) → IsStepBy m s t c a
  other_by events patience a new co other free = record {
    new = new;
    step = co.step;
    chosen = by_choice c s.shared ((hardened code).want co.step.before) a other (late_chosen co.step.before a co.step.due (free co.step.before co.step.stands));
  }

  -- a thread that isn't blocked has an entry
  pub entry_there : (k : ℕ) (h : Hardened) → IsLeastUnused s.shared.blocks k → k < 2 ^ 32 → EndedBelow s.shared → IsRunning s t → slice_get s.threads t ≡ Some h → IsBlocked code s h c.timeout None
      → CanMove (hardened code) s t ⊎ HardenedWaits code s.shared h → IsComing code 0 0 s t None → ⊥
  entry_there k h used few ended run there free (inl can) none = let x = can_come code 0 0 s t k h used few ended run there can in none x.0 x.1 x.2
  entry_there k h used few ended run there free (inr waits) none = free waits.0 (inl waits.1)
