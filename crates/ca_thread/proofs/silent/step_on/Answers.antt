use Rattle.ca_thread.specs.Silent.{stays, goes}
use Rattle.ca_thread.proofs.Falling.{has_link, link_falls, stops_here}
use Rattle.ca_thread.proofs.silent.step_on.Goals as goal

pub returns-in_default-silent-clause-stops : goal.returns-in_default-silent-clause-stops
returns-in_default-silent-clause-stops c = ((c.in_default-silent.ensures c.in-Some.at.now.node.item).1, stops_here c.args.steps.now c.args.node.0 c.in-Some.at.now c.args.row.now c.in-Some.ensures (c.in_default-silent.ensures c.in-Some.at.now.node.item).0)

pub returns-in_default-toward-clause-stops : goal.returns-in_default-toward-clause-stops
returns-in_default-toward-clause-stops c = absurd (has_link _ _ _ _ _ _ c.requires c.in-Some.ensures (c.in-Some-silent.ensures c.in-Some.at.now.node.item) c.in_default-toward.ensures)

pub returns-clause-on : goal.returns-clause-on
returns-clause-on c = (
  goes c.in-Some.at.now stays c.in-Some.ensures (c.in-Some-silent.ensures c.in-Some.at.now.node.item) c.in-Some-toward.ensures,
  link_falls _ _ _ _ _ _ _ c.requires c.in-Some.ensures (c.in-Some-silent.ensures c.in-Some.at.now.node.item) c.in-Some-toward.ensures,
)
