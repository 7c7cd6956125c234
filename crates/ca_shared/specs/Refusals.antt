-- Why a shared state forbids an entry: the first reason that holds.
use Rattle.std.specs.Prelude.{ℕ, ℤ, pos, Bool, false, ◌&&◌, nat_lt, nat_le, ◌+◌, ◌^◌, ◌==◌, if◌then◌else◌, List, [], ◌∷◌, Option, Some, None}
use Rattle.std.specs.Ordering.{int_eq}
use Rattle.std.specs.FinMap as map
use Rattle.std.specs.FinSet as set
use Rattle.ca_tree.specs.declared.numbers.MutexId.{MutexId}
use Rattle.ca_model.specs.declared.values.Addr.{Addr}
use Rattle.ca_model.specs.declared.values.Value.{Value}
use Rattle.ca_model.specs.declared.values.Value.TheVariants as v
use Rattle.ca_model.specs.declared.values.Given.{Given}
use Rattle.ca_model.specs.declared.values.Given.TheVariants as given
use Rattle.ca_model.specs.declared.values.Event.{Event}
use Rattle.ca_model.specs.declared.values.EventAct.{EventAct}
use Rattle.ca_model.specs.declared.values.EventAct.TheVariants as act
use Rattle.ca_model.specs.Arith.{same}
use Rattle.ca_model.specs.Shared.{Blocks, Block, Shared, Phase, Open, Finished, Failed, cell, live_cells, give}
use Rattle.ca_model.specs.ComingEntries.{is_heap, can_free}
use Rattle.ca_memory.specs.Zeros.{start_of}
use Rattle.ca_shared.specs.declared.refusals.Illegal.{Illegal}
use Rattle.ca_shared.specs.declared.refusals.Illegal.TheVariants as no

abbrev pub bad : Value → Illegal
bad x = no.BadAddress (record { at = x; by = pos 0 })

-- a read: there is no cell, or it has another value
abbrev pub of_read : Addr → Value → Option Value → Option Illegal
of_read a x None = Some (bad (v.Addr a))
of_read a x (Some y) = if same x y then None else Some (no.OtherValue y)

-- a write: there is no cell
abbrev pub of_write : Addr → Option Value → Option Illegal
of_write a None = Some (bad (v.Addr a))
of_write a (Some y) = None

-- a mutex that isn't there, of so many, and else another reason
abbrev pub if_mutex : ℕ → MutexId → Option Illegal → Option Illegal
if_mutex n m more = if nat_lt m.0 n then more else Some (no.NoMutex n)

abbrev pub no_mutex : ℕ → MutexId → Option ℕ → Illegal
no_mutex n m owner = if nat_lt m.0 n then no.OwnerIs owner else no.NoMutex n

-- a lock: the mutex is held (POSIX `pthread_mutex_lock`)
abbrev pub of_lock : Option ℕ → Option Illegal
of_lock None = None
of_lock (Some u) = Some (no.OwnerIs (Some u))

-- a mutex that its owner alone gives back (POSIX `pthread_mutex_unlock`)
abbrev pub of_owner : ℕ → Option ℕ → Option Illegal
of_owner t None = Some (no.OwnerIs None)
of_owner t (Some u) = if u == t then None else Some (no.OwnerIs (Some u))

-- a new block: its number was used, or the heap has no room for so many cells
abbrev pub of_block : Blocks → ℕ → ℤ → Option Block → Option Illegal
of_block m b n (Some x) = Some (no.BlockUsed b)
of_block m b (pos n) None = if nat_le (live_cells m + n) (2 ^ 20) then None else Some (no.HeapFull (live_cells m))
of_block m b n None = None

abbrev pub at_least_one : ℤ → Bool
at_least_one (pos n) = nat_lt 0 n
at_least_one n = false

-- a `malloc`: it gives neither null nor the start of a block of some cells, or not that block (C11 7.22.3)
abbrev pub of_malloc : Blocks → ℤ → Value → Option Illegal
of_malloc m n (v.Num k) = if int_eq k (pos 0) then None else Some (no.BadMalloc n (v.Num k))
of_malloc m n (v.Addr a) = if int_eq a.offset (pos 0) && at_least_one n then of_block m a.block n (map.get m a.block) else Some (no.BadMalloc n (v.Addr a))

-- a `free` of what can't be freed (C11 7.22.3.3)
abbrev pub of_free : Blocks → Value → Option Illegal
of_free m x = if can_free m x then None else Some (bad x)

-- a create of another number than the next, or of one thread too many
abbrev pub of_create : ℕ → ℕ → Option Illegal
of_create n u = if (u == n) && nat_lt u 64 then None else Some (no.ThreadsAre n)

-- a join of no thread, or of one that hasn't ended (POSIX `pthread_join`)
abbrev pub of_join : ℕ → ℕ → Bool → Option Illegal
of_join n u ended = if nat_lt u n then (if ended then None else Some (no.NotEnded u)) else Some (no.ThreadsAre n)

-- a thing that can't be given back
abbrev pub of_thing : Shared → ℕ → Given → Option Illegal
of_thing s t (given.Mutex m) = if_mutex s.mutexes m (of_owner t (map.get s.owners m.0))
of_thing s t (given.Block b) = if is_heap (map.get s.blocks b) then None else Some (bad (start_of b))

-- things that are given back one after another: the first that can't be
abbrev pub of_things : Shared → ℕ → List Given → Option Illegal
of_things s t [] = None
of_things s t (g ∷ gs) = elim (of_thing s t g) [ Some why ↦ Some why | None ↦ of_things (give s g) t gs ]

-- the entry's own reasons
abbrev pub of_act : Shared → ℕ → EventAct → Option Illegal
of_act s t (act.Read a x) = of_read a x (cell s.blocks a.block a.offset)
of_act s t (act.Write a x) = of_write a (cell s.blocks a.block a.offset)
of_act s t (act.Lock m) = if_mutex s.mutexes m (of_lock (map.get s.owners m.0))
of_act s t (act.Unlock m) = if_mutex s.mutexes m (of_owner t (map.get s.owners m.0))
of_act s t (act.Malloc n x) = of_malloc s.blocks n x
of_act s t (act.Free x) = of_free s.blocks x
of_act s t (act.Create u) = of_create s.threads u
of_act s t (act.Join u) = of_join s.threads u (set.contains s.ended u)
of_act s t (act.Retry site gives) = of_things s t gives
of_act s t _ = None

-- in this order: the run has ended, there is no such thread, the thread has ended, the entry's own
abbrev pub if_open : Phase → Option Illegal → Option Illegal
if_open Open more = more
if_open Finished more = Some no.RunEnded
if_open (Failed k) more = Some no.RunEnded

abbrev pub if_going : Bool → Option Illegal → Option Illegal
if_going ended more = if ended then Some no.ThreadEnded else more

abbrev pub refusal : Shared → Event → Option Illegal
refusal s e = if_open s.phase (if nat_lt e.thread s.threads then if_going (set.contains s.ended e.thread) (of_act s e.thread e.act) else Some no.NoThread)
