-- How a machine goes on under a schedule.
use Rattle.std.specs.Prelude.{◌≡◌, ◌<◌, ◌↔◌, ℕ, List, ◌++◌, Bool, true, false, Option, Some, None, Contains}
use Rattle.ca_model.specs.declared.values.Event.{Event}
use Rattle.ca_model.specs.declared.values.Ending.{Ending}
use Rattle.ca_model.specs.declared.values.Ending.TheVariants as ending
use Rattle.ca_model.specs.Shared.{Phase, Open, Finished, Failed}
use Rattle.ca_model.specs.Codes.{code_of}
use Rattle.ca_model.specs.Hardened.{Hardened}
use Rattle.ca_model.specs.Machine.{State}
use Rattle.ca_model.specs.Schedules.{Schedule}
use Rattle.ca_model.specs.Runner.{IsReady, TimesOut, RunsOn}
use Rattle.ca_machine.specs.Machines.{Traced, Reaches}

-- what the runner gives from a state that the machine reaches
abbrev pub GoesOn : ℕ → ℕ → Traced → Schedule → State Hardened → List Event → Ending → Type 0
GoesOn events patience m c s rest end = RunsOn (code_of m.source m.plan) events patience c s m.trace rest end

-- some entries on, which begin whatever the runner gives: from the state that is reached now, what follows is what the runner gives there
pub record IsAlong (events patience : ℕ) (m n : Traced) (c d : Schedule) (s : State Hardened) : Type 0 where
  pub done : List Event
  pub source : n.source ≡ m.source
  pub plan : n.plan ≡ m.plan
  pub trace : n.trace ≡ m.trace ++ done
  pub now : State Hardened
  pub reached : Reaches n now
  pub back : (rest : List Event) (end : Ending) → GoesOn events patience n d now rest end → GoesOn events patience m c s (done ++ rest) end

-- the run has finished or failed, and so it has ended; or it is open
abbrev pub IsClosedAs : Phase → Option Ending → Type 0
IsClosedAs p None = p ≡ Open
IsClosedAs p (Some ending.Finished) = p ≡ Finished
IsClosedAs p (Some (ending.Fault k)) = p ≡ Failed k
IsClosedAs p (Some end) = ⊥

-- a thread of the first group, or of the second
abbrev pub Passes : ℕ → ℕ → Traced → State Hardened → Bool → ℕ → Type 0
Passes events patience m s false t = IsReady (code_of m.source m.plan) events patience s m.trace t
Passes events patience m s true t = TimesOut (code_of m.source m.plan) events patience s t

-- exactly the threads of a group that stand below n
abbrev pub AreBelow : ℕ → ℕ → Traced → State Hardened → Bool → ℕ → List ℕ → Type 0
AreBelow events patience m s late n list = (t : ℕ) → Contains list t ↔ ((t < n) × Passes events patience m s late t)
