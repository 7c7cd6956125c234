-- Things that are given back one after another.
use Rattle.std.specs.Prelude.{◌≡◌, ◌<◌, ℕ, List, [], ◌∷◌, take, Option, Some, slice_get}
use Rattle.std.specs.FinMap as map
use Rattle.ca_tree.specs.declared.numbers.MutexId.{MutexId}
use Rattle.ca_model.specs.declared.values.Given.{Given}
use Rattle.ca_model.specs.declared.values.Given.TheVariants as given
use Rattle.ca_model.specs.Shared.{Blocks, IsHeapStart, freed}
use Rattle.ca_memory.specs.Zeros.{start_of}
use Rattle.ca_memory.specs.Mutexes.{Mutexes}

-- blocks, and owners, without a thing
abbrev pub blocks_without : Blocks → Given → Blocks
blocks_without m (given.Mutex n) = m
blocks_without m (given.Block b) = freed m (start_of b)

abbrev pub owners_without : Mutexes → Given → Mutexes
owners_without o (given.Mutex n) = record o { owners = map.remove o.owners n.0 }
owners_without o (given.Block b) = o

abbrev pub blocks_without_all : Blocks → List Given → Blocks
blocks_without_all m [] = m
blocks_without_all m (g ∷ gs) = blocks_without_all (blocks_without m g) gs

abbrev pub owners_without_all : Mutexes → List Given → Mutexes
owners_without_all o [] = o
owners_without_all o (g ∷ gs) = owners_without_all (owners_without o g) gs

-- a block that can be given back: a live one of the heap
abbrev pub IsBlockHeld : Blocks → Given → Type 0
IsBlockHeld m (given.Mutex n) = Unit {0}
IsBlockHeld m (given.Block b) = IsHeapStart m (start_of b)

-- a mutex that thread t can give back: its own
abbrev pub IsMutexHeld : Mutexes → ℕ → Given → Type 0
IsMutexHeld o t (given.Mutex n) = (n.0 < o.count) × (map.get o.owners n.0 ≡ Some t)
IsMutexHeld o t (given.Block b) = Unit {0}

-- each one when its turn comes
abbrev pub AreBlocksHeld : Blocks → List Given → Type 0
AreBlocksHeld m [] = Unit {0}
AreBlocksHeld m (g ∷ gs) = IsBlockHeld m g × AreBlocksHeld (blocks_without m g) gs

abbrev pub AreMutexesHeld : Mutexes → ℕ → List Given → Type 0
AreMutexesHeld o t [] = Unit {0}
AreMutexesHeld o t (g ∷ gs) = IsMutexHeld o t g × AreMutexesHeld (owners_without o g) t gs

-- the first block that can't be given back when its turn comes, at place k
pub record IsFirstNoBlock (m : Blocks) (gs : List Given) (k b : ℕ) : Type 0 where
  pub at : slice_get gs k ≡ Some (given.Block b)
  pub before : AreBlocksHeld m (take k gs)
  pub gone : IsHeapStart (blocks_without_all m (take k gs)) (start_of b) → ⊥

-- the first mutex, with the owner that it has when its turn comes
pub record IsFirstNoMutex (o : Mutexes) (t : ℕ) (gs : List Given) (k : ℕ) (m : MutexId) (owner : Option ℕ) : Type 0 where
  pub at : slice_get gs k ≡ Some (given.Mutex m)
  pub before : AreMutexesHeld o t (take k gs)
  pub owned : map.get (owners_without_all o (take k gs)).owners m.0 ≡ owner
  pub gone : m.0 < o.count → owner ≡ Some t → ⊥
