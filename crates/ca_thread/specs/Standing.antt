-- Running frames that stand for frames.
use Rattle.std.specs.Prelude.{◌≡◌, ℕ, Bool, true, List, [], ◌∷◌, reverse, Some, slice_get}
use Rattle.ca_model.specs.declared.values.Value.{Value}
use Rattle.ca_model.specs.Asks.{Got, Is, Wants, No_result, Calls}
use Rattle.ca_tree.specs.declared.numbers.FunId.{FunId}
use Rattle.ca_model.specs.Frames.{Frame, begun}
use Rattle.ca_model.proofs.KnownWants.{IsPlaced}
use Rattle.ca_flow.specs.declared.instr.Step.{Step}
use Rattle.ca_flow.specs.Graphs.{ControlFlow}
use Rattle.ca_flow.specs.Instructions.{node_run, toward}
use Rattle.ca_flow.specs.Lowerings.{Lowering, rules_of}
use Rattle.ca_flow.specs.Standing.{StandsFor}
use Rattle.ca_thread.specs.declared.frames.RunningFrame.{RunningFrame as Running}
use Rattle.ca_thread.specs.Silent.{Silent, StopsAt}

-- an instruction that asks for something
abbrev pub IsWaiting : Got (List Value × Bool) → Type 0
IsWaiting (Is s rest) = ⊥
IsWaiting (Wants w) = Unit {0}
IsWaiting No_result = ⊥

-- where a node asks for something and has a link, an answer leads on to a node that stops
pub record Answered (g : List Step) (x : Value) (n : ℕ) (r : List Value) (m : ℕ) (r' : List Value) : Type 0 where
  pub leads : (at : Step) (next : ℕ) → slice_get g n ≡ Some at → IsWaiting (node_run at.node r []) → toward at.links true ≡ Some next
      → (t : List Value) × (node_run at.node r (x ∷ []) ≡ Is (t, true) []) × Silent g next t m r' × StopsAt g m r'

-- a running frame stands for a frame that is in place in its function
pub record IsStanding (l : Lowering) (x : Running) (f : Frame) : Type 0 where
  pub graph : ControlFlow
  pub found : slice_get l.graphs x.function.0 ≡ Some graph
  pub stands : StandsFor (rules_of l) graph.steps x.node.0 x.row f
  pub stops : StopsAt graph.steps x.node.0 x.row
  pub placed : IsPlaced l.source (rules_of l) f

-- a frame that waits for the function that it called
abbrev pub IsCalling : Lowering → Frame → Type 0
IsCalling l f = (g : FunId) × (xs : List Value) × (begun (rules_of l) f ≡ Wants (Calls g xs))

-- the innermost one first
abbrev pub AreCallers : Lowering → List Running → List Frame → Type 0
AreCallers l [] [] = Unit {0}
AreCallers l (x ∷ xs) (f ∷ fs) = IsStanding l x f × IsCalling l f × AreCallers l xs fs
AreCallers l _ _ = ⊥

abbrev pub StandsFirst : Lowering → List Running → List Frame → Type 0
StandsFirst l [] [] = Unit {0}
StandsFirst l (x ∷ xs) (f ∷ fs) = IsStanding l x f × AreCallers l xs fs
StandsFirst l _ _ = ⊥

-- running frames, the innermost last, for frames, the innermost first
abbrev pub AreStanding : Lowering → List Running → List Frame → Type 0
AreStanding l xs fs = StandsFirst l (reverse xs) fs
