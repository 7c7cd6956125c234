use Rattle.std.proofs.Common.{arith}
use Rattle.ca_plan.proofs.Naming.{told}
use Rattle.ca_plan.proofs.named.is_site.Goals as goal

pub returns-then-n-ge1 : goal.returns-then-n-ge1
returns-then-n-ge1 c = told c.args.code.now.source c.args.n c.sites.result c.sites.ensures (omega (arith, c.if-n-ge1.true))
