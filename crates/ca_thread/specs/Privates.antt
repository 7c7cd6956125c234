-- The private state of a thread as contracts see it.
use Rattle.std.specs.Prelude.{◌≡◌, ◌<◌, ℕ, List, [], ◌∷◌, ◌++◌, map, length, slice_get, Option, Some, None, Contains}
use Rattle.ca_tree.specs.declared.numbers.FunId.{FunId}
use Rattle.ca_model.specs.declared.tree.Item.{Item}
use Rattle.ca_model.specs.declared.values.Event.{Event}
use Rattle.ca_model.specs.declared.values.Given.{Given}
use Rattle.ca_model.specs.Codes.{Typed}
use Rattle.ca_model.specs.Paths.{Creates}
use Rattle.ca_model.specs.Sites.{all_items}
use Rattle.ca_model.specs.Machine.{by}
use Rattle.ca_model.specs.Hardened.{Saved, Hardened, hardened_advance}
use Rattle.ca_model.specs.Matched.{Own, LeadsTo}
use Rattle.ca_flow.specs.Lowerings.{Lowering, rules_of}
use Rattle.ca_thread.specs.declared.frames.RunningFrame.{RunningFrame as Running}
use Rattle.ca_thread.specs.declared.saved.SavedState.{SavedState}
use Rattle.ca_flow.specs.declared.instr.Step.{Step}
use Rattle.ca_flow.specs.Graphs.{ControlFlow}
use Rattle.ca_thread.specs.Asked.{IsText}
use Rattle.ca_thread.specs.Standing.{AreStanding}
use Rattle.ca_thread.specs.Kept.{AreKept, HavePlace}
use Rattle.ca_thread.specs.Changes.{Makes}
use Rattle.ca_thread.specs.declared.private.Prepared.{Prepared}

-- its code, its number, where it starts with its own entries, and the event that is prepared
pub record Thread : Type 0 where
  pub code : Lowering
  pub thread : ℕ
  pub own : Own
  pub prepared : Option Event

-- thread 0 starts with `main`, and every other one with a function of the source that is named in a create
pub record IsStart (p : Typed) (thread : ℕ) (f : FunId) : Type 0 where
  pub known : f.0 < length p.functions
  pub first : thread ≡ 0 → f ≡ p.main
  pub other : (thread ≡ 0 → ⊥) → (c : Item) × Contains (all_items p.functions) c × Creates c.act f

abbrev pub taken_in : Option Saved → List Given
taken_in None = []
taken_in (Some sv) = sv.taken

-- the frames and the saved state are those to which its own entries lead
pub record IsThere (l : Lowering) (thread : ℕ) (o : Own) (frames : List Running) (saved : Option SavedState) : Type 0 where
  pub state : Hardened
  pub leads : LeadsTo (rules_of l) o state
  pub stands : AreStanding l frames state.frames
  pub keeps : AreKept l saved state.saved
  pub start : IsStart l.source thread o.function

-- each of its events is one of the thread
abbrev pub AreMine : ℕ → List Event → Type 0
AreMine thread es = es ≡ map (by thread) (map (λ (e : Event). e.act) es)

-- the bytes are those that the innermost frame prints, if it stands at a print
abbrev pub IsTextAt : Lowering → List Running → List ℕ → Type 0
IsTextAt l frames text =
    (xs : List Running) (x : Running) (g : ControlFlow) (at : Step) → frames ≡ xs ++ x ∷ [] → slice_get l.graphs x.function.0 ≡ Some g → slice_get g.steps x.node.0 ≡ Some at → IsText at.node.instr x.row text

-- all memory for an event is there, and its change is the one by which the thread goes on
pub record IsReadyFor (l : Lowering) (thread : ℕ) (own : Own) (frame event : Type 0) (saved : Option SavedState) (q : Prepared) : Type 0 where
  pub mine : q.entry.thread ≡ thread
  pub frame_place : frame
  pub event_place : event
  pub places : HavePlace saved
  pub goes : (h : Hardened) → LeadsTo (rules_of l) own h → (k : Hardened) × (hardened_advance (rules_of l) h q.entry.act ≡ Some k) × Makes l h q.change k

abbrev pub IsReady : Lowering → ℕ → Own → Type 0 → Type 0 → Option SavedState → Option Prepared → Type 0
IsReady l thread own frame event saved None = Unit {0}
IsReady l thread own frame event saved (Some q) = IsReadyFor l thread own frame event saved q
