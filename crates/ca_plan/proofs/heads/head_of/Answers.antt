use Rattle.ca_plan.proofs.RunHeads.{head_before}
use Rattle.ca_plan.proofs.heads.head_of.Goals as goal

pub returns-in-Some-get : goal.returns-in-Some-get
returns-in-Some-get c = λ x is. head_before c.args.callers.now c.args.heads.now c.requires c.in-Some.before c.in-Some-get.head.now c.in-Some-get.ensures.lookup.0 c.in-Some-get.ensures.lookup.1 x (c.in-Some.ensures x is)
