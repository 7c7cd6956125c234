use Rattle.ca_plan.proofs.Naming.{none_yet, one_more, first_at, not_told}
use Rattle.ca_plan.proofs.named.first_no_site.Goals as goal

pub numbers-init : goal.numbers-init
numbers-init c = none_yet c.args.code.now.source

pub numbers-preserved : goal.numbers-preserved
numbers-preserved c = one_more c.args.code.now.source c.args.numbers.now c.numbers.n-index c.numbers-test.true c.numbers.invariant (c.is_site.ensures.0 c.if-not-is_site.false)

pub returns-then-not-is_site : goal.returns-then-not-is_site
returns-then-not-is_site c = first_at c.args.code.now.source c.args.numbers.now c.numbers.n-index c.numbers-test.true c.numbers.invariant (not_told c.is_site.result c.if-not-is_site.true c.is_site.ensures)
