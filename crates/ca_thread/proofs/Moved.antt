-- Frames that go on.
use Rattle.std.proofs.Common.{◌≡◌, ◌<◌, List, [], ◌∷◌, ◌++◌, length, Some, None, refl, sym, subst}
use Rattle.std.specs.Prelude.{slice_get}
use Rattle.ca_tree.specs.declared.numbers.FunId.{FunId}
use Rattle.ca_model.specs.declared.values.Value.{Value}
use Rattle.ca_model.specs.Asks.{Want, Calls, Returns, Wants}
use Rattle.ca_model.specs.Begun.{IsReturn}
use Rattle.ca_model.specs.Frames.{Code, Frame, begun, wanted, answered, frame_of}
use Rattle.ca_model.specs.Private.{gone}
use Rattle.ca_model.proofs.KnownWants.{IsKnown, wants_known}
use Rattle.ca_flow.specs.declared.instr.Step.{Step}
use Rattle.ca_flow.specs.Graphs.{ControlFlow}
use Rattle.ca_flow.specs.Instructions.{node_run}
use Rattle.ca_flow.specs.Lowerings.{Lowering, rules_of}
use Rattle.ca_thread.specs.declared.frames.RunningFrame.{RunningFrame as Running}
use Rattle.ca_thread.specs.Standing.{IsStanding, AreStanding}
use Rattle.ca_thread.specs.Moves.{IsPlain, IsCallee}
use Rattle.ca_thread.proofs.FrameLists.{opened, called}
use Rattle.ca_thread.proofs.Tops.{one_graph, asks_for}

-- the instruction of the innermost frame asks for what the frame wants
pub top_asks : (l : Lowering) (frames xs : List Running) (top : Running) (g : ControlFlow) (at : Step) (f : Frame) (fs : List Frame) (w : Want) → frames ≡ xs ++ top ∷ [] → slice_get l.graphs top.function.0 ≡ Some g → slice_get g.steps top.node.0 ≡ Some at
    → AreStanding l frames (f ∷ fs) → begun (rules_of l) f ≡ Wants w → node_run at.node top.row [] ≡ Wants w
top_asks l frames xs top g at f fs w is graph node standing asks =
    let s = (opened l xs top f fs (subst (λ r. AreStanding l r (f ∷ fs)) is standing)).0 in
    asks_for l top f s at w (subst (λ (g : ControlFlow). slice_get g.steps top.node.0 ≡ Some at) (one_graph l top.function.0 g s.graph graph s.found) node) asks

-- the function that it calls is there
pub call_known : (l : Lowering) (frames xs : List Running) (top : Running) (f : Frame) (fs : List Frame) (g : FunId) (vs : List Value) → frames ≡ xs ++ top ∷ [] → AreStanding l frames (f ∷ fs) → begun (rules_of l) f ≡ Wants (Calls g vs) → g.0 < length l.source.functions
call_known l frames xs top f fs g vs is standing asks =
    let s = (opened l xs top f fs (subst (λ r. AreStanding l r (f ∷ fs)) is standing)).0 in
    let known : IsKnown l.source (wanted (begun (rules_of l) f)) = wants_known l.source (rules_of l) f s.placed in
    subst (λ d. IsKnown l.source (wanted d)) asks known

plain_other : (w : Want) → IsPlain w → IsReturn w → ⊥
plain_other (Returns x) p r = p
plain_other _ p r = r

pub not_return : (w : Want) → IsPlain w → IsReturn w → ⊥
not_return = plain_other

pub gone_plain : (code : Code) (w : Want) (y : Value) (f : Frame) (fs : List Frame) → IsPlain w → gone code w y f fs ≡ answered code f y ∷ fs
gone_plain code (Calls g xs) y f fs p = absurd p
gone_plain code (Returns x) y f fs p = absurd p
gone_plain code _ y f fs p = refl

-- the frame that a call begins
pub plain_callee : (l : Lowering) (w : Want) → IsPlain w → IsCallee l w None
plain_callee l (Calls g xs) p = absurd p
plain_callee l _ p = tt

pub return_callee : (l : Lowering) (w : Want) (x : Value) → w ≡ Returns x → IsCallee l w None
return_callee l w x e = subst (λ v. IsCallee l v None) (sym e) tt

pub call_callee : (l : Lowering) (w : Want) (g : FunId) (xs ys : List Value) (x : Running) → w ≡ Calls g xs → ys ≡ xs → IsStanding l x (frame_of (rules_of l) g ys) → IsCallee l w (Some x)
call_callee l w g xs ys x e same standing = subst (λ v. IsCallee l v (Some x)) (sym e) (subst (λ zs. IsStanding l x (frame_of (rules_of l) g zs)) same standing)

pub no_callee : (l : Lowering) (w : Want) (g : FunId) (xs : List Value) → w ≡ Calls g xs → IsCallee l w None → ⊥
no_callee l w g xs e h = let no : IsCallee l (Calls g xs) None = subst (λ v. IsCallee l v None) e h in no

pub called_so : (l : Lowering) (rows new : List Running) (x : Running) (w : Want) (y : Value) (f : Frame) (fs : List Frame) → new ≡ rows ++ x ∷ [] → AreStanding l rows (f ∷ fs) → begun (rules_of l) f ≡ Wants w → IsCallee l w (Some x) → AreStanding l new (gone (rules_of l) w y f fs)
called_so l rows new x (Calls g xs) y f fs is standing asks callee = called l rows new x (frame_of (rules_of l) g xs) f fs is standing (g, xs, asks) callee
called_so l rows new x _ y f fs is standing asks callee = absurd callee
