-- What no entry takes back.
use Rattle.std.specs.Prelude.{◌≡◌, ◌≤◌, ℕ, true, false, List, ◌++◌, length, Some}
use Rattle.std.specs.FinMap as map
use Rattle.std.specs.FinSet as set
use Rattle.ca_model.specs.declared.values.Event.{Event}
use Rattle.ca_model.specs.Shared.{Block, Shared}
use Rattle.ca_model.specs.Machine.{Rules, State, Run}

-- a block keeps its kind and its size, and a dead one stays dead: its number is never used again (C11 6.2.4)
abbrev pub IsBlockKept : Block → Block → Type 0
IsBlockKept a b = (b.heap ≡ a.heap) × (length b.cells ≡ length a.cells) × (a.live ≡ false → b.live ≡ false)

pub record IsKept (a b : Shared) : Type 0 where
  pub blocks : (n : ℕ) (x : Block) → map.get a.blocks n ≡ Some x → (y : Block) × (map.get b.blocks n ≡ Some y) × IsBlockKept x y
  pub mutexes : b.mutexes ≡ a.mutexes
  pub output : (more : List ℕ) × (b.output ≡ a.output ++ more)
  pub threads : a.threads ≤ b.threads
  pub ended : (t : ℕ) → set.contains a.ended t ≡ true → set.contains b.ended t ≡ true

abbrev pub RunsKeep : {T : Type 0} → Rules T → Type 0
RunsKeep {T} r = (s new : State T) (es : List Event) → Run r s es new → IsKept s.shared new.shared
