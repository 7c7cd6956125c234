use Rattle.std.proofs.Common.{refl, arith}
use Rattle.ca_lower.proofs.Growing.{}
use Rattle.ca_lower.proofs.ActsAdded.{lock_added}
use Rattle.ca_lower.proofs.builder.Builder.lock.Goals as goal

pub returns-clause-adds : goal.returns-clause-adds
returns-clause-adds c g width le stands =
    lock_added _ g _ width c.args.at.now.function.locals (omega arith) _ c.take_site-site.new.self.site c.args.next _ _ c.take_site-site.result _ c.requires.act (omega (arith, c.requires.site, c.take_site-site.ensures.number)) c.take_site-site.ensures.site (stands _ _ c.in_ok-node.ensures.pushed refl)
