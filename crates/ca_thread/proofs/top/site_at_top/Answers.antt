use Rattle.ca_thread.proofs.TopSites.{at_top, node_missing, site_wanted, mark_planned}
use Rattle.ca_thread.proofs.top.site_at_top.Goals as goal

pub returns-in_default-step_at-clause-site : goal.returns-in_default-step_at-clause-site
returns-in_default-step_at-clause-site c h standing =
    let rows = c.in-Some.ensures.some in absurd (node_missing c.args.code.now c.args.frames.now rows.0 c.in-Some.top.now h rows.1 c.in_default-step_at.ensures.none standing)

pub returns-clause-site : goal.returns-clause-site
returns-clause-site c h standing =
    let rows = c.in-Some.ensures.some in
    let node = c.in-Some-step_at.ensures.some in
    let at = c.in-Some-step_at.at.now in
    site_wanted c.args.code.now rows.0 c.in-Some.top.now at h c.asked_site.result (at_top c.args.code.now c.args.frames.now rows.0 c.in-Some.top.now node.0 at h rows.1 node.1 node.2 standing) c.asked_site.ensures.wanted c.asked_site.ensures.none

pub returns-clause-planned : goal.returns-clause-planned
returns-clause-planned c h standing =
    let node = c.in-Some-step_at.ensures.some in
    mark_planned c.args.code.now c.step_at.ensures.lowered c.in-Some.top.now.function.0 c.in-Some.top.now.node.0 node.0 c.in-Some-step_at.at.now c.asked_site.result node.1 node.2 c.asked_site.ensures.mark
