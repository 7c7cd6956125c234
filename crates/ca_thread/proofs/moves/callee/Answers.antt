use Rattle.std.proofs.Common.{◌∷◌, ap, ◌∙◌}
use Rattle.ca_model.specs.Asks.{Want, Wants}
use Rattle.ca_thread.proofs.TopSites.{node_missing}
use Rattle.ca_thread.proofs.Moved.{top_asks, call_known, plain_callee, return_callee, call_callee}
use Rattle.ca_thread.proofs.moves.callee.Goals as goal

pub returns-in_default-step_at : goal.returns-in_default-step_at
returns-in_default-step_at c f fs w standing asks =
    let rows = c.in-Some.ensures.some in
    absurd (node_missing c.args.code.now c.args.frames.now rows.0 c.in-Some.top.now (f ∷ fs) rows.1 c.in_default-step_at.ensures.none standing)

pub begin-requires : goal.begin-requires
begin-requires c =
    let l = c.args.code.now in
    let rows = c.in-Some.ensures.some in
    let node = c.in-Some-step_at.ensures.some in
    let at = c.in-Some-step_at.at.now in
    let top = c.in-Some.top.now in
    let h = c.requires in
    let asks = top_asks l c.args.frames.now rows.0 top node.0 at h.0 h.1 h.2 rows.1 node.1 node.2 h.3 h.4 in
    call_known l c.args.frames.now rows.0 top h.0 h.1 c.in-Call.function _ rows.1 h.3 (h.4 ∙ ap (λ (w : Want). Wants w) (c.in-Call.ensures at.node.item top.row h.2 asks))

pub returns-in-Plain : goal.returns-in-Plain
returns-in-Plain c f fs w standing asks =
    let rows = c.in-Some.ensures.some in
    let node = c.in-Some-step_at.ensures.some in
    let at = c.in-Some-step_at.at.now in
    let top = c.in-Some.top.now in
    plain_callee c.args.code.now w (c.in-Plain.ensures at.node.item top.row w (top_asks c.args.code.now c.args.frames.now rows.0 top node.0 at f fs w rows.1 node.1 node.2 standing asks))

pub returns-in-Return : goal.returns-in-Return
returns-in-Return c f fs w standing asks =
    let rows = c.in-Some.ensures.some in
    let node = c.in-Some-step_at.ensures.some in
    let at = c.in-Some-step_at.at.now in
    let top = c.in-Some.top.now in
    return_callee c.args.code.now w _ (c.in-Return.ensures at.node.item top.row w (top_asks c.args.code.now c.args.frames.now rows.0 top node.0 at f fs w rows.1 node.1 node.2 standing asks))

pub returns-in_ok-frame-in-Call : goal.returns-in_ok-frame-in-Call
returns-in_ok-frame-in-Call c f fs w standing asks =
    let rows = c.in-Some.ensures.some in
    let node = c.in-Some-step_at.ensures.some in
    let at = c.in-Some-step_at.at.now in
    let top = c.in-Some.top.now in
    let want = c.in-Call.ensures at.node.item top.row w (top_asks c.args.code.now c.args.frames.now rows.0 top node.0 at f fs w rows.1 node.1 node.2 standing asks) in
    let values = c.deref.ensures.value ∙ c.in_ok-values-in-Call.ensures in
    call_callee c.args.code.now w c.in-Call.function _ c.deref.result.now c.in_ok-frame-in-Call.frame want values c.in_ok-frame-in-Call.ensures
