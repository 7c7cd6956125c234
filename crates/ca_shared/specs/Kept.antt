-- The shared state that the kept parts are, and the counts that stand beside them.
use Rattle.std.specs.Prelude.{◌≡◌, ◌≤◌, ℕ, zero, suc, true, false, ◌+◌, ◌++◌, max, cond, List, [], ◌∷◌, length, sum_by, Some, None, unwrap_or, slice_get}
use Rattle.std.specs.Ordering.{nat_cmp}
use Rattle.std.specs.FinSet as set
use Rattle.ca_model.specs.declared.tree.GlobalStart.{GlobalStart}
use Rattle.ca_model.specs.declared.values.Event.{Event}
use Rattle.ca_model.specs.declared.values.EventAct.{EventAct}
use Rattle.ca_model.specs.declared.values.EventAct.TheVariants as act
use Rattle.ca_model.specs.Shared as shared
use Rattle.ca_model.specs.Shared.{Shared, Blocks}
use Rattle.ca_model.specs.Machine.{AllLegal}
use Rattle.ca_model.specs.Matched.{shared_after}
use Rattle.ca_model.specs.FrameCounts as counted
use Rattle.ca_model.specs.Runner.{since_last}
use Rattle.ca_memory.specs.Mutexes.{Mutexes}
use Rattle.ca_shared.specs.declared.phase.Phase.{Phase}
use Rattle.ca_shared.specs.declared.phase.Phase.TheVariants as phase
use Rattle.ca_shared.specs.declared.threads.Depth.{Depth}
use Rattle.ca_shared.specs.declared.threads.Progress.{Progress}
use Rattle.ca_shared.specs.Histories.{opened}

-- the threads that have ended, from thread n on
abbrev pub ended_from : ℕ → List Progress → set.FinSet nat_cmp
ended_from n [] = set.empty
ended_from n (p ∷ ps) = cond p.ended (set.insert (ended_from (n + 1) ps) n) (ended_from (n + 1) ps)

abbrev pub phase_of : Phase → shared.Phase
phase_of phase.Open = shared.Open
phase_of phase.Finished = shared.Finished
phase_of (phase.Failed k) = shared.Failed k

abbrev pub shared_of : Blocks → Mutexes → List ℕ → List Progress → Phase → Shared
shared_of blocks mutexes output threads p = record {
  blocks = blocks;
  mutexes = mutexes.count;
  owners = mutexes.owners;
  output = output;
  threads = length threads;
  ended = ended_from 0 threads;
  phase = phase_of p;
}

-- the frames of a thread, as they are kept
abbrev pub depth_of : Depth → counted.Depth
depth_of d = record { now = d.now; saved = d.saved }

abbrev pub kept_of : counted.Depth → Depth
kept_of d = record { now = d.now; saved = d.saved }

-- a thread that a create makes, where its entry is the last of so many
abbrev pub begun : ℕ → Progress
begun place = record { ended = false; depth = record { now = 1; saved = None }; last = place }

-- thread t ends
abbrev pub flagged : List Progress → ℕ → List Progress
flagged [] t = []
flagged (p ∷ ps) zero = record p { ended = true } ∷ ps
flagged (p ∷ ps) (suc t) = p ∷ flagged ps t

-- the threads after an entry of thread t, but for their counts
abbrev pub threads_after : List Progress → ℕ → EventAct → ℕ → List Progress
threads_after ps t (act.Create u) place = ps ++ begun place ∷ []
threads_after ps t act.End place = flagged ps t
threads_after ps t _ place = ps

-- a thread after its own entry, the last of so many
abbrev pub noted : Progress → EventAct → ℕ → Progress
noted p a place = record { ended = p.ended; depth = kept_of (counted.deeper (depth_of p.depth) a); last = place }

abbrev pub noted_at : List Progress → ℕ → EventAct → ℕ → List Progress
noted_at [] t a place = []
noted_at (p ∷ ps) zero a place = noted p a place ∷ ps
noted_at (p ∷ ps) (suc t) a place = p ∷ noted_at ps t a place

-- the threads that an entry makes
abbrev pub made : EventAct → ℕ
made (act.Create u) = 1
made _ = 0

-- the most frames that a thread may have after its next entries, but for calls
abbrev pub most : Progress → ℕ
most p = max p.depth.now (unwrap_or p.depth.saved 0)

-- what is kept of thread t after some entries
pub record IsProgress (trace : List Event) (t : ℕ) (p : Progress) : Type 0 where
  pub depth : depth_of p.depth ≡ counted.depth_of t trace
  pub last : p.last + since_last 0 t trace ≡ length trace

-- the parts are the effect of the entries, each of which was legal, and the counts are theirs
pub record AreParts (globals : List GlobalStart) (trace : List Event) (blocks : Blocks) (mutexes : Mutexes) (output : List ℕ) (threads : List Progress) (frames : ℕ) (p : Phase) : Type 0 where
  pub state : shared_of blocks mutexes output threads p ≡ shared_after (opened globals mutexes.count) trace
  pub legal : AllLegal (opened globals mutexes.count) trace
  pub few : length trace ≤ 4000000000
  pub each : (t : ℕ) (x : Progress) → slice_get threads t ≡ Some x → IsProgress trace t x
  pub all : frames ≡ sum_by (λ x. x.depth.now) threads
  pub fits : sum_by most threads ≤ length threads + length trace
