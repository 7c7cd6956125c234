-- The entry that comes for a thread: by what it wants, the shared state leaves at most one that the runner may choose.
use Rattle.std.specs.Prelude.{◌≡◌, ℕ, zero, suc, ◌+◌, ◌^◌, ◌<◌, ◌==◌, nat_lt, nat_le, ℤ, pos, negsuc, ◌+ℤ◌, Bool, true, false, ◌&&◌, cond, List, [], Option, Some, None, filter}
use Rattle.std.specs.Ordering.{int_eq}
use Rattle.std.specs.FinMap as map
use Rattle.std.specs.FinSet as set
use Rattle.ca_tree.specs.declared.numbers.SiteId.{SiteId}
use Rattle.ca_tree.specs.declared.numbers.MutexId.{MutexId}
use Rattle.ca_model.specs.declared.values.Addr.{Addr}
use Rattle.ca_model.specs.declared.values.Value.{Value}
use Rattle.ca_model.specs.declared.values.Value.TheVariants as v
use Rattle.ca_model.specs.declared.values.Given.{Given}
use Rattle.ca_model.specs.declared.values.Given.TheVariants as given
use Rattle.ca_model.specs.declared.values.FaultKind.{FaultKind}
use Rattle.ca_model.specs.declared.values.FaultKind.TheVariants as fault
use Rattle.ca_model.specs.declared.values.EventAct.{EventAct}
use Rattle.ca_model.specs.declared.values.EventAct.TheVariants as act
use Rattle.ca_model.specs.declared.tree.LoadKind.{LoadKind}
use Rattle.ca_model.specs.Arith.{null, suits}
use Rattle.ca_model.specs.Asks.{Want, Reads, Writes, Locks, Unlocks, Mallocs, Frees, Prints, Creates, Joins, Calls, Returns, Turns, Ends, Fails, Faults, Saves, Ended}
use Rattle.ca_model.specs.Frames.{Code}
use Rattle.ca_model.specs.Private.{stand}
use Rattle.ca_model.specs.Shared.{Shared, Blocks, Block, live_cells, reached}
use Rattle.ca_model.specs.Hardened.{Hardened, Saved, latest_first, retry_site}

-- whether a thread owns a mutex, a block is live and of the heap, and a thing is held
abbrev pub is_owner : ℕ → Option ℕ → Bool
is_owner t None = false
is_owner t (Some u) = u == t

abbrev pub is_heap : Option Block → Bool
is_heap None = false
is_heap (Some b) = b.heap && b.live

abbrev pub is_held : Shared → ℕ → Given → Bool
is_held s t (given.Mutex m) = is_owner t (map.get s.owners m.0)
is_held s t (given.Block b) = is_heap (map.get s.blocks b)

-- what a retry gives back: of what was taken, what is still held, the latest first
abbrev pub gives_of : Shared → ℕ → Saved → List Given
gives_of s t sv = filter (is_held s t) (latest_first sv.taken)

-- the threads that have ended were made by a create
abbrev pub EndedBelow : Shared → Type 0
EndedBelow g = (u : ℕ) → set.contains g.ended u ≡ true → (0 < u) × (u < g.threads)

-- a retry where there is a site for it, and else a fault
abbrev pub failing : Option SiteId → FaultKind → List Given → EventAct
failing None f gives = act.Fault f
failing (Some s) f gives = act.Retry s gives

abbrev pub retrying : Option SiteId → List Given → Option EventAct
retrying None gives = None
retrying (Some s) gives = Some (act.Retry s gives)

-- so for a thread with a saved state, or without one
abbrev pub gives_at : Shared → ℕ → Option Saved → List Given
gives_at s t None = []
gives_at s t (Some sv) = gives_of s t sv

-- the address of an access
abbrev pub aimed : Value → ℤ → Addr
aimed (v.Num n) by = record { block = 0; offset = by }
aimed (v.Addr a) by = record { block = a.block; offset = a.offset +ℤ by }

-- a block of so many cells has room, and the value that a `malloc` gives, where k is the least number never used (C11 7.22.3)
abbrev pub room : Blocks → ℤ → Bool
room m (pos zero) = false
room m (pos (suc n)) = nat_le (live_cells m + suc n) (2 ^ 20)
room m (negsuc n) = false

abbrev pub block_at : ℕ → Value
block_at k = v.Addr (record { block = k; offset = pos 0 })

abbrev pub given_value : Blocks → ℕ → ℤ → Value
given_value m k cells = cond (room m cells) (block_at k) null

-- whether a value may be freed (C11 7.22.3.3)
abbrev pub can_free : Blocks → Value → Bool
can_free m (v.Num n) = int_eq n (pos 0)
can_free m (v.Addr a) = int_eq a.offset (pos 0) && is_heap (map.get m a.block)

-- a read of a cell, of which the value has to fit; where there is no cell, what comes in its place
abbrev pub read_entry : Addr → LoadKind → Option Value → EventAct → EventAct
read_entry a kd None missing = missing
read_entry a kd (Some x) missing = cond (suits kd x) (act.Read a x) (act.Fault fault.Kind)

-- likewise a write
abbrev pub write_entry : Addr → Value → Option Value → EventAct → EventAct
write_entry a x None missing = missing
write_entry a x (Some y) missing = act.Write a x

-- a lock of a free mutex; at a held one a retry, if there may be one (POSIX `pthread_mutex_timedlock`)
abbrev pub lock_entry : MutexId → Bool → Option ℕ → Option EventAct → Option EventAct
lock_entry m there None r = cond there (Some (act.Lock m)) None
lock_entry m there (Some u) r = r

-- a create while there are fewer than 64 threads
abbrev pub create_entry : ℕ → Option EventAct
create_entry n = cond (nat_lt n 64) (Some (act.Create n)) (cond (n == 64) (Some (act.Fault fault.Thread)) None)

-- a join of a thread that has ended; none of one that hasn't, and a fault where no create gave the number
abbrev pub join_entry : Shared → ℤ → Option EventAct
join_entry g (pos zero) = Some (act.Fault fault.Thread)
join_entry g (pos (suc u)) = cond (nat_lt (suc u) g.threads) (cond (set.contains g.ended (suc u)) (Some (act.Join (suc u))) None) (Some (act.Fault fault.Thread))
join_entry g (negsuc n) = Some (act.Fault fault.Thread)

-- a fault of values
abbrev pub fault_entry : FaultKind → Option EventAct
fault_entry fault.Arith = Some (act.Fault fault.Arith)
fault_entry _ = None

-- the entry that comes, if one does: k is the least number of a block that was never used, r the site for a retry
abbrev pub the_entry : Shared → ℕ → ℕ → Option SiteId → List Given → Want → Option EventAct
the_entry g t k r gives (Reads at by kd s) = Some (read_entry (aimed at by) kd (reached g.blocks at by) (failing r fault.Pointer gives))
the_entry g t k r gives (Writes at by x s) = Some (write_entry (aimed at by) x (reached g.blocks at by) (failing r fault.Pointer gives))
the_entry g t k r gives (Locks m s i) = lock_entry m (nat_lt m.0 g.mutexes) (map.get g.owners m.0) (retrying r gives)
the_entry g t k r gives (Unlocks m) = Some (cond (is_owner t (map.get g.owners m.0)) (act.Unlock m) (act.Fault fault.Mutex))
the_entry g t k r gives (Mallocs cells i) = Some (act.Malloc cells (given_value g.blocks k cells))
the_entry g t k r gives (Frees x s) = Some (cond (can_free g.blocks x) (act.Free x) (failing r fault.Pointer gives))
the_entry g t k r gives (Prints text) = Some (act.Print text)
the_entry g t k r gives (Creates f x) = create_entry g.threads
the_entry g t k r gives (Joins n) = join_entry g n
the_entry g t k r gives (Calls f xs) = Some (act.Call f)
the_entry g t k r gives (Returns x) = Some (act.Return x)
the_entry g t k r gives Turns = Some act.Turn
the_entry g t k r gives Ends = Some act.End
the_entry g t k r gives (Fails s) = Some (failing r fault.Assert gives)
the_entry g t k r gives (Faults f) = fault_entry f
the_entry g t k r gives Saves = Some act.Save
the_entry g t k r gives Ended = None

-- the entry that comes for thread t, which stands there as h
abbrev pub entry_of : Code → Shared → ℕ → ℕ → Hardened → Option EventAct
entry_of code g t k h = the_entry g t k (retry_site code h) (gives_at g t h.saved) (stand code h.frames).want
