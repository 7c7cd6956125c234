use Rattle.std.proofs.Common.{◌≡◌}
use Rattle.ca_model.specs.Private.{answer}
use Rattle.ca_thread.proofs.TopSites.{at_top, node_missing, thread_wants}
use Rattle.ca_thread.proofs.top.answer_at_top.Goals as goal

pub returns-in_default-step_at : goal.returns-in_default-step_at
returns-in_default-step_at c h standing =
    let rows = c.in-Some.ensures.some in absurd (node_missing c.args.code.now c.args.frames.now rows.0 c.in-Some.top.now h rows.1 c.in_default-step_at.ensures.none standing)

pub returns : goal.returns
returns c h standing =
    let l = c.args.code.now in
    let frames = c.args.frames.now in
    let top = c.in-Some.top.now in
    let rows = c.in-Some.ensures.some in
    let node = c.in-Some-step_at.ensures.some in
    let at = c.in-Some-step_at.at.now in
    thread_wants l frames rows.0 top at h c.is_one.result (λ v. c.own_answer.result ≡ answer v c.args.act.now) rows.1 (at_top l frames rows.0 top node.0 at h rows.1 node.1 node.2 standing) c.is_one.ensures
    (λ w e. c.own_answer.ensures.wanted at.node.item w e (c.requires rows.0 top node.0 at rows.1 node.1 node.2)) (λ e. c.own_answer.ensures.none at.node.item e)
