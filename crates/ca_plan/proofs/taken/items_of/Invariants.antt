use Rattle.std.proofs.Common.{take}
use Rattle.ca_plan.proofs.Taking.{AreItemsOf}
use Rattle.ca_plan.proofs.taken.items_of.Given as goal

abbrev pub invariant-sites : goal.invariant-sites
invariant-sites l = AreItemsOf l.code.source (take l.site-index l.fn.sites) l.items.items
