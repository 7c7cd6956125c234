use Rattle.std.proofs.Common.{◌≡◌, ◌∙◌}
use Rattle.ca_thread.specs.Asked.{wants_save}
use Rattle.ca_thread.proofs.TopSites.{at_top, node_missing, thread_wants_alike, save_last}
use Rattle.ca_thread.proofs.top.saves_at_top.Goals as goal

pub returns-in_default-step_at : goal.returns-in_default-step_at
returns-in_default-step_at c h standing =
    let rows = c.in-Some.ensures.some in absurd (node_missing c.args.code.now c.args.frames.now rows.0 c.in-Some.top.now h rows.1 c.in_default-step_at.ensures.none standing)

pub returns : goal.returns
returns c h standing =
    let l = c.args.code.now in
    let frames = c.args.frames.now in
    let top = c.in-Some.top.now in
    let rows = c.in-Some.ensures.some in
    let node = c.in-Some-step_at.ensures.some in
    let at = c.in-Some-step_at.at.now in
    thread_wants_alike l rows.0 top at h (λ v. c.saves.result ≡ wants_save v) (at_top l frames rows.0 top node.0 at h rows.1 node.1 node.2 standing)
    (λ w fs is. is ∙ save_last w fs) (λ w e. c.saves.ensures.wanted at.node.item top.row w e) (λ e. c.saves.ensures.none at.node.item top.row e)
