-- What a thread of a state may do, and for what it waits.
use Rattle.std.specs.Prelude.{◌≡◌, ◌<◌, ◌≤◌, ◌⊎◌, ℕ, pos, false, Option, Some, None, slice_get}
use Rattle.std.specs.FinMap as map
use Rattle.std.specs.FinSet as set
use Rattle.ca_model.specs.declared.values.Event.{Event}
use Rattle.ca_model.specs.declared.values.EventAct.{EventAct}
use Rattle.ca_model.specs.Asks.{Want, Locks, Joins}
use Rattle.ca_model.specs.Frames.{Code}
use Rattle.ca_model.specs.Shared.{Shared, Open}
use Rattle.ca_model.specs.Machine.{State}
use Rattle.ca_model.specs.Hardened.{Hardened}
use Rattle.ca_model.specs.Runner.{Comes, Moves, TimesOut, IsTimeout}
use Rattle.ca_model.specs.Waits.{WaitsAt}
use Rattle.ca_machine.specs.declared.coming.Status.{Status}
use Rattle.ca_machine.specs.declared.coming.Status.TheVariants as status
use Rattle.ca_machine.specs.declared.waits.Waits.{Waits}
use Rattle.ca_machine.specs.declared.waits.Waits.TheVariants as waits

-- entries of a thread may come: the run is open, and the thread is there and hasn't ended
pub record IsRunning (s : State Hardened) (t : ℕ) : Type 0 where
  pub run : s.shared.phase ≡ Open
  pub there : t < s.shared.threads
  pub going : set.contains s.shared.ended t ≡ false

-- by the entry that comes
abbrev pub IsStatus : Option EventAct → Want → Status → Type 0
IsStatus o w status.Rests = o ≡ None
IsStatus o w status.Moves = (a : EventAct) × (o ≡ Some a) × (IsTimeout a w → ⊥)
IsStatus o w status.TimesOut = (a : EventAct) × (o ≡ Some a) × IsTimeout a w

module _ (code : Code) where
  -- a thread of a state goes on, times out or rests, and never two of these
  abbrev pub IsStatusOf : ℕ → ℕ → State Hardened → ℕ → Status → Type 0
  IsStatusOf events patience s t status.Rests = (Moves code events patience s t → ⊥) × (TimesOut code events patience s t → ⊥)
  IsStatusOf events patience s t status.Moves = Moves code events patience s t × (TimesOut code events patience s t → ⊥)
  IsStatusOf events patience s t status.TimesOut = (Moves code events patience s t → ⊥) × TimesOut code events patience s t

  -- the event that comes for a thread, if one does
  abbrev pub IsComing : ℕ → ℕ → State Hardened → ℕ → Option Event → Type 0
  IsComing events patience s t None = (a : EventAct) (new : State Hardened) → Comes code events patience s t a new → ⊥
  IsComing events patience s t (Some e) = (e.thread ≡ t) × ((new : State Hardened) × Comes code events patience s t e.act new)

-- for what a thread waits there
abbrev pub IsWait : Shared → Waits → Want → Type 0
IsWait s (waits.Lock m u) (Locks n site i) = (n ≡ m) × (map.get s.owners n.0 ≡ Some u)
IsWait s (waits.Join u) (Joins n) = (n ≡ pos u) × WaitsAt s (Joins n)
IsWait s _ _ = ⊥

abbrev pub IsWaitAt : Shared → Want → Option Waits → Type 0
IsWaitAt s w None = WaitsAt s w → ⊥
IsWaitAt s w (Some x) = IsWait s x w

-- thread t of an open run waits so, at a lock with or without a possible retry; else, and where no thread has the number, nothing waits
pub record IsWaitOf (s : State Hardened) (want : Hardened → Want) (t : ℕ) (o : Option Waits) : Type 0 where
  pub there : (h : Hardened) → slice_get s.threads t ≡ Some h → ((s.shared.phase ≡ Open) × IsWaitAt s.shared (want h) o) ⊎ ((s.shared.phase ≡ Open → ⊥) × (o ≡ None))
  pub beyond : s.shared.threads ≤ t → o ≡ None
