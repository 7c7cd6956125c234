-- Threads that wait.
use Rattle.std.specs.Prelude.{◌≡◌, ◌<◌, ◌⊎◌, ◌↔◌, ℕ, suc, pos, false, List, Some, None, slice_get}
use Rattle.std.specs.FinMap as map
use Rattle.std.specs.FinSet as set
use Rattle.ca_model.specs.declared.values.EventAct.{EventAct}
use Rattle.ca_model.specs.declared.values.Event.{Event}
use Rattle.ca_model.specs.Asks.{Want, Locks, Joins}
use Rattle.ca_model.specs.Shared.{Shared, Open}
use Rattle.ca_model.specs.Frames.{Code}
use Rattle.ca_model.specs.Machine.{by, Rules, State, Step, Run}
use Rattle.ca_model.specs.Hardened.{Hardened, hardened, retry_site}
use Rattle.ca_model.specs.Codes.{Typed}
use Rattle.ca_model.specs.Opening.{opening, CanStep}

-- at a join of a thread that a create made and that hasn't ended, or at a held lock
abbrev pub WaitsAt : Shared → Want → Type 0
WaitsAt s (Joins n) = (u : ℕ) × (n ≡ pos (suc u)) × (suc u < s.threads) × (set.contains s.ended (suc u) ≡ false)
WaitsAt s (Locks m site i) = (u : ℕ) × (map.get s.owners m.0 ≡ Some u)
WaitsAt s _ = ⊥

-- and no rollback is allowed there
abbrev pub HardenedWaits : Code → Shared → Hardened → Type 0
HardenedWaits code s h = WaitsAt s ((hardened code).want h) × (retry_site code h ≡ None)

-- some entry of thread t is possible
abbrev pub CanMove : {T : Type 0} → Rules T → State T → ℕ → Type 0
CanMove {T} r s t = (a : EventAct) × (new : State T) × Step r s (by t a) new

-- of the threads that haven't ended, each can move or waits, and none does both
abbrev pub EachMovesOrWaits : {T : Type 0} → Rules T → (Shared → T → Type 0) → State T → Type 0
EachMovesOrWaits {T} r Waits s =
    (t : ℕ) (x : T) → slice_get s.threads t ≡ Some x → set.contains s.shared.ended t ≡ false → (CanMove r s t ⊎ Waits s.shared x) × (CanMove r s t → Waits s.shared x → ⊥)

-- each thread that hasn't ended waits
abbrev pub AllWait : {T : Type 0} → (Shared → T → Type 0) → State T → Type 0
AllWait {T} Waits s = (t : ℕ) (x : T) → slice_get s.threads t ≡ Some x → set.contains s.shared.ended t ≡ false → Waits s.shared x

-- so in a run from the opening that hasn't ended, no entry is possible exactly where all wait
abbrev pub NoneWaitsInVain : {T : Type 0} → Rules T → (Shared → T → Type 0) → Typed → Type 0
NoneWaitsInVain {T} r Waits p =
    (es : List Event) (s : State T) → Run r (opening r p) es s → s.shared.phase ≡ Open → EachMovesOrWaits r Waits s × ((CanStep r s → ⊥) ↔ AllWait Waits s)
