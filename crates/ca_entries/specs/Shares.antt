-- The parts of a shared state by which entries come, and what a retry gives back.
use Rattle.std.specs.Prelude.{◌≡◌, ℕ, ℤ, pos, negsuc, Bool, List, filter, Option, Some, None}
use Rattle.std.specs.FinSet as set
use Rattle.ca_model.specs.declared.values.Given.{Given}
use Rattle.ca_model.specs.declared.values.EventAct.{EventAct}
use Rattle.ca_model.specs.Shared.{Shared, Blocks}
use Rattle.ca_model.specs.Hardened.{latest_first}
use Rattle.ca_model.specs.ComingEntries.{is_held}
use Rattle.ca_memory.specs.Mutexes.{Mutexes}
use Rattle.ca_wants.specs.declared.next.Next.{Next}
use Rattle.ca_wants.specs.declared.next.Next.TheVariants as next

-- blocks, owners and the number of threads are those of a shared state
pub record IsSharedBy (g : Shared) (m : Blocks) (os : Mutexes) (n : ℕ) : Type 0 where
  pub blocks : g.blocks ≡ m
  pub owners : g.owners ≡ os.owners
  pub mutexes : g.mutexes ≡ os.count
  pub threads : g.threads ≡ n

-- a thread has ended, or not
abbrev pub HasEnded : Shared → ℤ → Bool → Type 0
HasEnded g (pos u) b = set.contains g.ended u ≡ b
HasEnded g (negsuc u) b = Unit {0}

-- the thread that is joined
abbrev pub IsJoined : Shared → Next → Bool → Type 0
IsJoined g (next.Join u) b = HasEnded g u b
IsJoined g _ b = Unit {0}

-- of what a thread has taken, what it still holds, each thing once, the latest first
abbrev pub given_back : Shared → ℕ → List Given → List Given
given_back g t taken = filter (is_held g t) (latest_first taken)

-- an entry, and where there is none another one in its place
abbrev pub or_that : Option EventAct → EventAct → EventAct
or_that None other = other
or_that (Some a) other = a
