-- How a thread goes on by an entry of its own.
use Rattle.std.specs.Prelude.{◌≡◌, ◌+◌, List, [], ◌∷◌, Option, Some, None, Result, Ok, Err}
use Rattle.ca_model.specs.Arith.{null}
use Rattle.ca_model.specs.Asks.{Want, Wants, Saves}
use Rattle.ca_model.specs.Frames.{Frame, begun, answered}
use Rattle.ca_model.specs.Private.{gone}
use Rattle.ca_model.specs.Hardened.{Saved, Hardened, tries, took, fresh}
use Rattle.ca_model.specs.Sites.{if_any}
use Rattle.ca_flow.specs.Lowerings.{Lowering, rules_of}
use Rattle.ca_thread.specs.declared.changes.AdvanceNo.{AdvanceNo}
use Rattle.ca_thread.specs.declared.changes.AdvanceNo.TheVariants as no
use Rattle.ca_thread.specs.declared.changes.Change.{Change}
use Rattle.ca_thread.specs.declared.changes.Change.TheVariants as change
use Rattle.ca_thread.specs.declared.frames.RunningFrame.{RunningFrame as Running}
use Rattle.ca_thread.specs.declared.saved.SavedState.{SavedState}
use Rattle.ca_thread.specs.Kept.{IsKept, AreKept}
use Rattle.ca_thread.specs.Moves.{IsCallee}
use Rattle.ca_thread.specs.Standing.{AreStanding}

-- running frames and a saved state stand for a thread
pub record StandsAs (l : Lowering) (frames : List Running) (saved : Option SavedState) (h : Hardened) : Type 0 where
  pub rows : AreStanding l frames h.frames
  pub kept : AreKept l saved h.saved

-- a change makes one thread of another
abbrev pub Makes : Lowering → Hardened → Change → Hardened → Type 0
Makes l h (change.Answer y taken callee) k =
    (f : Frame) × (fs : List Frame) × (w : Want) × (h.frames ≡ f ∷ fs) × (begun (rules_of l) f ≡ Wants w) × IsCallee l w callee × (k ≡ record { frames = gone (rules_of l) w y f fs; saved = took (if_any taken) h.saved })
Makes l h change.Fault k = k ≡ record { frames = []; saved = took [] h.saved }
Makes l h (change.Save state) k =
    (f : Frame) × (fs : List Frame) × (h.frames ≡ f ∷ fs) × (begun (rules_of l) f ≡ Wants Saves) × IsKept l state (record { copy = answered (rules_of l) f null ∷ fs; tried = []; taken = [] }) × (k ≡ fresh (answered (rules_of l) f null ∷ fs))
Makes l h (change.Retry site count rows) k =
    (sv : Saved) × (h.saved ≡ Some sv) × (count ≡ tries sv site + 1) × AreStanding l rows.items sv.copy × (k ≡ record { frames = sv.copy; saved = Some (record { copy = sv.copy; tried = site ∷ sv.tried; taken = [] }) })

-- the change by which a thread goes on, if it does; want of memory says nothing
abbrev pub Changes : Lowering → Hardened → Option Hardened → Result Change AdvanceNo → Type 0
Changes l h o (Ok c) = (k : Hardened) × (o ≡ Some k) × Makes l h c k
Changes l h o (Err no.NotNext) = o ≡ None
Changes l h o (Err no.NoMemory) = Unit {0}
