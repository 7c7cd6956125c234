-- Blocks that pass for no blocks of the heap for a while, and mutexes that are given back for a while.
use Rattle.std.specs.Prelude.{nat_lt, cond, Bool, true, false, List, [], ◌∷◌, ℕ, Option, Some, None}
use Rattle.std.specs.FinMap as map
use Rattle.ca_model.specs.declared.values.Given.{Given}
use Rattle.ca_model.specs.declared.values.Given.TheVariants as given
use Rattle.ca_model.specs.Shared.{Blocks, Block, insert_if}
use Rattle.ca_memory.specs.Mutexes.{Mutexes}
use Rattle.ca_memory.specs.GivenBack.{IsBlockHeld}

-- a block with its mark as one of the heap set to h
abbrev pub marked : Bool → Option Block → Option Block
marked h None = None
marked h (Some b) = Some (record b { heap = h })

abbrev pub mark : Bool → Blocks → ℕ → Blocks
mark h m b = insert_if m b (marked h (map.get m b))

abbrev pub mark_thing : Bool → Blocks → Given → Blocks
mark_thing h m (given.Mutex n) = m
mark_thing h m (given.Block b) = mark h m b

abbrev pub hidden : Blocks → List Given → Blocks
hidden m [] = m
hidden m (g ∷ gs) = hidden (mark_thing false m g) gs

-- shown again, the last one first
abbrev pub shown : Blocks → List Given → Blocks
shown m [] = m
shown m (g ∷ gs) = mark_thing true (shown m gs) g

-- each one is a block of the heap when its turn comes to be hidden
abbrev pub AreHidden : Blocks → List Given → Type 0
AreHidden m [] = Unit {0}
AreHidden m (g ∷ gs) = IsBlockHeld m g × AreHidden (mark_thing false m g) gs

-- mutexes that thread t takes again, the last one first
abbrev pub owners_with : Mutexes → ℕ → Given → Mutexes
owners_with o t (given.Mutex n) = cond (nat_lt n.0 o.count) (record o { owners = map.insert o.owners n.0 t }) o
owners_with o t (given.Block b) = o

abbrev pub owners_with_all : Mutexes → ℕ → List Given → Mutexes
owners_with_all o t [] = o
owners_with_all o t (g ∷ gs) = owners_with (owners_with_all o t gs) t g
