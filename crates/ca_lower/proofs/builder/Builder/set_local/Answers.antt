use Rattle.std.proofs.Common.{arith}
use Rattle.ca_lower.proofs.Growing.{}
use Rattle.ca_lower.proofs.ActsAdded.{set_added}
use Rattle.ca_lower.proofs.builder.Builder.set_local.Goals as goal

pub returns-clause-adds : goal.returns-clause-adds
returns-clause-adds c g width le stands =
    set_added _ g _ width _ (omega (arith, c.locals-low.ensures)) _ _ _ _ c.args.x _ c.requires.act (omega (arith, c.requires.site, c.in_ok-start.ensures.site)) (c.in_ok-start.ensures.adds g width le stands)
