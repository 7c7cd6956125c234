use Rattle.std.proofs.Common.{take}
use Rattle.ca_plan.specs.Planning.{AreSiteNumbers}
use Rattle.ca_plan.proofs.named.first_no_site.Given as goal

abbrev pub invariant-numbers : goal.invariant-numbers
invariant-numbers l = AreSiteNumbers l.code.source (take l.n-index l.fn.numbers)
