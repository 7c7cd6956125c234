use Rattle.std.proofs.Common.{◌≡◌, List, [], ◌∷◌, refl, sym, ap, subst, ◌∙◌}
use Rattle.ca_model.specs.declared.values.Value.{Value}
use Rattle.ca_model.specs.Asks.{Returns}
use Rattle.ca_model.specs.Frames.{Frame, answered}
use Rattle.ca_model.specs.Private.{gone}
use Rattle.ca_flow.specs.Lowerings.{Lowering, rules_of}
use Rattle.ca_thread.specs.declared.frames.RunningFrame.{RunningFrame as Running}
use Rattle.ca_thread.specs.Standing.{AreStanding}
use Rattle.ca_thread.proofs.TopSites.{node_missing}
use Rattle.ca_thread.proofs.Moved.{top_asks, not_return, gone_plain, no_callee}
use Rattle.ca_thread.proofs.moves.go_without_call.Goals as goal

pub returns-in_default-step_at : goal.returns-in_default-step_at
returns-in_default-step_at c f fs w standing asks none =
    let rows = c.in-Some.ensures.some in
    absurd (node_missing c.args.code.now c.args.frames.now.items rows.0 c.in-Some.top.now (f ∷ fs) (sym c.deref.ensures.value ∙ rows.1) c.in_default-step_at.ensures.none standing)

pub returns-in-Plain : goal.returns-in-Plain
returns-in-Plain c f fs w standing asks none =
    let l = c.args.code.now in
    let rows = c.in-Some.ensures.some in
    let node = c.in-Some-step_at.ensures.some in
    let at = c.in-Some-step_at.at.now in
    let top = c.in-Some.top.now in
    let is = sym c.deref.ensures.value ∙ rows.1 in
    let plain = c.in-Plain.ensures at.node.item top.row w (top_asks l c.args.frames.now.items rows.0 top node.0 at f fs w is node.1 node.2 standing asks) in
    subst (AreStanding l c.go_on_top.new.frames.items) (sym (gone_plain (rules_of l) w c.args.answer f fs plain)) (c.go_on_top.ensures.some f fs w standing asks (not_return w plain))

-- a return, to a caller or from the last frame
returned_so : (l : Lowering) (rows : List Running) (y x : Value) (f : Frame) (fs : List Frame) → ((h : Frame) (hs : List Frame) → fs ≡ h ∷ hs → AreStanding l rows (answered (rules_of l) h x ∷ hs)) → (fs ≡ [] → AreStanding l rows []) → AreStanding l rows (gone (rules_of l) (Returns x) y f fs)
returned_so l rows y x f [] caller last = last refl
returned_so l rows y x f (h ∷ hs) caller last = caller h hs refl

pub returns-in-Return : goal.returns-in-Return
returns-in-Return c f fs w standing asks none =
    let l = c.args.code.now in
    let rows = c.in-Some.ensures.some in
    let node = c.in-Some-step_at.ensures.some in
    let at = c.in-Some-step_at.at.now in
    let top = c.in-Some.top.now in
    let is = sym c.deref.ensures.value ∙ rows.1 in
    let want = c.in-Return.ensures at.node.item top.row w (top_asks l c.args.frames.now.items rows.0 top node.0 at f fs w is node.1 node.2 standing asks) in
    let same = want ∙ ap (λ (x : Value). Returns x) (sym c.returned-value.ensures) in
    subst (λ v. AreStanding l c.leave.new.frames.items (gone (rules_of l) v c.args.answer f fs)) (sym same)
    (returned_so l c.leave.new.frames.items c.args.answer c.returned-value.result f fs
    (λ h hs e. c.leave.ensures.caller f h hs (subst (λ gs. AreStanding l c.args.frames.now.items (f ∷ gs)) e standing))
    (λ e. c.leave.ensures.last f (subst (λ gs. AreStanding l c.args.frames.now.items (f ∷ gs)) e standing)))

pub returns-in-Call : goal.returns-in-Call
returns-in-Call c f fs w standing asks none =
    let l = c.args.code.now in
    let rows = c.in-Some.ensures.some in
    let node = c.in-Some-step_at.ensures.some in
    let at = c.in-Some-step_at.at.now in
    let top = c.in-Some.top.now in
    let is = sym c.deref.ensures.value ∙ rows.1 in
    absurd (no_callee l w c.in-Call.field-0 _ (c.in-Call.ensures at.node.item top.row w (top_asks l c.args.frames.now.items rows.0 top node.0 at f fs w is node.1 node.2 standing asks)) none)
