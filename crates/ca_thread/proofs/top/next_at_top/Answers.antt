use Rattle.ca_wants.specs.Shown.{Shows}
use Rattle.ca_thread.proofs.TopSites.{at_top, node_missing, thread_wants}
use Rattle.ca_thread.proofs.top.next_at_top.Goals as goal

pub returns-in_default-step_at : goal.returns-in_default-step_at
returns-in_default-step_at c h standing =
    let rows = c.in-Some.ensures.some in absurd (node_missing c.args.code.now c.args.frames.now rows.0 c.in-Some.top.now h rows.1 c.in_default-step_at.ensures.none standing)

pub returns : goal.returns
returns c h standing =
    let l = c.args.code.now in
    let frames = c.args.frames.now in
    let top = c.in-Some.top.now in
    let rows = c.in-Some.ensures.some in
    let node = c.in-Some-step_at.ensures.some in
    let at = c.in-Some-step_at.at.now in
    thread_wants l frames rows.0 top at h c.is_one.result (λ v. Shows c.asked.result v c.args.retry) rows.1 (at_top l frames rows.0 top node.0 at h rows.1 node.1 node.2 standing) c.is_one.ensures
    (λ w e. c.asked.ensures.wanted at.node.item w e (c.requires rows.0 top node.0 at rows.1 node.1 node.2)) (λ e. c.asked.ensures.none at.node.item e)
