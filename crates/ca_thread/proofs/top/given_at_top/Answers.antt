use Rattle.std.proofs.Common.{◌≡◌, ap, ◌∙◌}
use Rattle.ca_model.specs.Hardened.{taking}
use Rattle.ca_model.specs.Sites.{if_any}
use Rattle.ca_flow.specs.Lowerings.{rules_of}
use Rattle.ca_thread.proofs.Tops.{graph_under}
use Rattle.ca_thread.proofs.TopSites.{at_top, node_missing, thread_wants_alike, taking_last}
use Rattle.ca_thread.proofs.top.given_at_top.Goals as goal

pub returns-in_default-step_at : goal.returns-in_default-step_at
returns-in_default-step_at c h standing =
    let rows = c.in-Some.ensures.some in absurd (node_missing c.args.code.now c.args.frames.now rows.0 c.in-Some.top.now h rows.1 c.in_default-step_at.ensures.none standing)

pub returns : goal.returns
returns c h standing =
    let l = c.args.code.now in
    let frames = c.args.frames.now in
    let top = c.in-Some.top.now in
    let rows = c.in-Some.ensures.some in
    let node = c.in-Some-step_at.ensures.some in
    let at = c.in-Some-step_at.at.now in
    let marks = (graph_under l c.step_at.ensures.lowered top.function.0 node.0 node.1).2.marks top.node.0 at node.2 in
    thread_wants_alike l rows.0 top at h (λ v. if_any c.given.result ≡ taking (rules_of l) v c.args.act.now) (at_top l frames rows.0 top node.0 at h rows.1 node.1 node.2 standing)
    (λ w fs is. is ∙ taking_last w fs (rules_of l) c.args.act.now)
    (λ w e. c.given.ensures.wanted at.node.item top.row w (rules_of l) marks.acquiring e) (λ e. ap if_any (c.given.ensures.none at.node.item top.row e))
