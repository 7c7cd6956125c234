use Rattle.std.proofs.Common.{◌<◌, ◌≤◌, length, subst}
use Rattle.ca_expressions.proofs.Counts.{exceeds_before_name, exceeds_name, keeps_name}
use Rattle.ca_expressions.proofs.limits.exceeded_by_name.Goals as goal

pub returns-in-Some : goal.returns-in-Some
returns-in-Some c = exceeds_before_name c.args.counts.now c.args.name.now c.in-Some.limit c.in-Some.ensures

pub returns-then-name-most : goal.returns-then-name-most
returns-then-name-most c = exceeds_name c.args.counts.now c.args.name.now c.in_default.ensures (subst (λ x. x < length c.args.name.now) c.most.ensures c.if-name-most.true)

pub returns : goal.returns
returns c = keeps_name c.args.counts.now c.args.name.now c.in_default.ensures (subst (λ x. length c.args.name.now ≤ x) c.most.ensures c.if-name-most.false)
