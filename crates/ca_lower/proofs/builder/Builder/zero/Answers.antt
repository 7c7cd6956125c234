use Rattle.std.proofs.Common.{refl, arith}
use Rattle.ca_lower.proofs.Growing.{}
use Rattle.ca_lower.proofs.ActsAdded.{zero_added}
use Rattle.ca_lower.proofs.builder.Builder.zero.Goals as goal

pub returns-clause-adds : goal.returns-clause-adds
returns-clause-adds c g width le stands =
    zero_added _ g _ width c.args.at.now.function.locals (omega arith) _ c.args.next _ _ c.args.x _ refl c.requires.act (omega (arith, le, c.in_ok-node.ensures.wide)) (stands _ _ c.in_ok-node.ensures.pushed refl)
