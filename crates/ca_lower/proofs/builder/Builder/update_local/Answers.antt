use Rattle.std.proofs.Common.{refl, arith}
use Rattle.ca_lower.proofs.Growing.{grows_on}
use Rattle.ca_lower.proofs.ActsAdded.{update_added, first_below}
use Rattle.ca_lower.proofs.builder.Builder.update_local.Goals as goal

pub returns-clause-adds : goal.returns-clause-adds
returns-clause-adds c g width le stands =
    update_added _ g _ width _ (omega (arith, c.locals-low.ensures)) _ _ _ c.args.next _ _ c.args.x _ _ c.home.result c.requires.act (omega (arith, c.requires.site, c.in_ok-node.ensures.site, c.in_ok-start.ensures.site)) (first_below _ _ _ c.requires.fits) (omega (arith, le, c.in_ok-node.ensures.wide, c.in_ok-start.ensures.grows.registers)) c.home.ensures (c.in_ok-start.ensures.adds g width le stands) (c.in_ok-start.ensures.grows.stands g stands _ _ c.in_ok-node.ensures.pushed refl)

pub returns-clause-grows : goal.returns-clause-grows
returns-clause-grows c = grows_on _ _ _ _ c.in_ok-node.ensures.grows c.in_ok-start.ensures.grows
