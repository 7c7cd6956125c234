use Rattle.ca_expressions.proofs.Counts.{exceeds_at, keeps_at, keeps_all}
use Rattle.ca_expressions.proofs.limits.first_exceeded.Goals as goal

pub returns-then-count-most : goal.returns-then-count-most
returns-then-count-most c = exceeds_at c.args.counts.now c.loop-count.count-index c.most.result _ c.loop-count-test.true c.loop-count.invariant c.most.ensures c.if-count-most.true

pub loop-count-preserved : goal.loop-count-preserved
loop-count-preserved c = keeps_at c.args.counts.now c.loop-count.count-index c.most.result _ c.loop-count-test.true c.loop-count.invariant c.most.ensures c.if-count-most.false

pub returns : goal.returns
returns c = keeps_all c.args.counts.now c.loop-count.count-index c.loop-count-test.false c.loop-count.invariant
