-- A step of a chosen thread.
use Rattle.std.specs.Prelude.{◌≡◌, ◌<◌, ◌≤◌, ◌⊎◌, ℕ, ℤ, pos, Bool, true, false, Option, Some, None, Result, Ok, Err, slice_get}
use Rattle.std.specs.FinMap as map
use Rattle.ca_model.specs.declared.values.Value.{Value}
use Rattle.ca_model.specs.declared.values.Value.TheVariants as v
use Rattle.ca_model.specs.declared.values.EventAct.{EventAct}
use Rattle.ca_model.specs.declared.values.EventAct.TheVariants as act
use Rattle.ca_model.specs.Arith.{null}
use Rattle.ca_model.specs.Asks.{Want}
use Rattle.ca_model.specs.Shared.{Shared, Blocks}
use Rattle.ca_model.specs.Machine.{by, State, Step}
use Rattle.ca_model.specs.Frames.{Code}
use Rattle.ca_model.specs.Hardened.{Hardened, hardened, retry_site}
use Rattle.ca_model.specs.Waits.{WaitsAt}
use Rattle.ca_model.specs.Codes.{code_of}
use Rattle.ca_model.specs.Runner.{HasRoom, IsGiven, IsTimeout, IsCrowded}
use Rattle.ca_machine.specs.Machines.{Traced, rules, went}
use Rattle.ca_machine.specs.Coming.{IsRunning, IsWait}
use Rattle.ca_machine.specs.declared.waits.Waits.{Waits}
use Rattle.ca_machine.specs.declared.choices.Fresh.{Fresh}
use Rattle.ca_machine.specs.declared.choices.Fresh.TheVariants as fresh
use Rattle.ca_machine.specs.declared.choices.Choice.{Choice}
use Rattle.ca_machine.specs.declared.choices.StepNo.{StepNo}
use Rattle.ca_machine.specs.declared.choices.StepNo.TheVariants as no

-- the value of a `malloc`: null where there is no room, and else the block that is chosen, or null
abbrev pub IsFresh : Fresh → Blocks → ℤ → Value → Type 0
IsFresh fresh.Least m cells x = IsGiven m cells x
IsFresh (fresh.Block b) m cells x = (HasRoom m cells × (x ≡ v.Addr (record { block = b; offset = pos 0 }))) ⊎ ((HasRoom m cells → ⊥) × (x ≡ null))
IsFresh fresh.Null m cells x = x ≡ null

-- a chosen block is one that was never used
abbrev pub IsUnused : Fresh → Blocks → Type 0
IsUnused (fresh.Block b) m = map.get m b ≡ None
IsUnused _ m = Unit {0}

-- the value is the chosen one, and a retry at a held lock comes by choice alone
abbrev pub IsChosenBy : Choice → Shared → Want → EventAct → Type 0
IsChosenBy c s w (act.Malloc cells x) = IsFresh c.fresh s.blocks cells x
IsChosenBy c s w a = IsTimeout a w → c.timeout ≡ true

-- a thread waits, and at a lock with a possible retry none is chosen
abbrev pub IsBlocked : Code → State Hardened → Hardened → Bool → Option Waits → Type 0
IsBlocked code s h timeout (Some w) = IsWait s.shared w ((hardened code).want h) × ((retry_site code h ≡ None) ⊎ (timeout ≡ false))
IsBlocked code s h timeout None = WaitsAt s.shared ((hardened code).want h) → (retry_site code h ≡ None) ⊎ (timeout ≡ false) → ⊥

-- a step of a thread by a choice
pub record IsStepBy (m : Traced) (s : State Hardened) (t : ℕ) (c : Choice) (a : EventAct) : Type 0 where
  pub new : State Hardened
  pub step : Step (rules m) s (by t a) new
  pub chosen : IsChosenBy c s.shared ((rules m).want step.before) a

-- what comes of it, in the order of the refusals
abbrev pub IsOutcome : Traced → State Hardened → ℕ → Choice → Traced → Result (Unit {0}) StepNo → Type 0
IsOutcome m s t c n (Ok u) = (a : EventAct) × (n ≡ went m (by t a)) × IsStepBy m s t c a × (IsCrowded s a → ⊥)
IsOutcome m s t c n (Err no.NoThread) = s.shared.threads ≤ t
IsOutcome m s t c n (Err no.Ended) = (t < s.shared.threads) × (IsRunning s t → ⊥)
IsOutcome m s t c n (Err (no.Blocked w)) = (h : Hardened) × (slice_get s.threads t ≡ Some h) × IsRunning s t × IsBlocked (code_of m.source m.plan) s h c.timeout (Some w)
IsOutcome m s t c n (Err no.Frames) = (a : EventAct) × IsStepBy m s t c a × IsCrowded s a
IsOutcome m s t c n (Err no.NoMemory) = Unit {0}
