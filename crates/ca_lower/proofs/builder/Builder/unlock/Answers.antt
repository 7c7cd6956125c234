use Rattle.std.proofs.Common.{refl, arith}
use Rattle.ca_lower.proofs.Growing.{}
use Rattle.ca_lower.proofs.ActsAdded.{unlock_added}
use Rattle.ca_lower.proofs.builder.Builder.unlock.Goals as goal

pub returns-clause-adds : goal.returns-clause-adds
returns-clause-adds c g width le stands =
    unlock_added _ g _ width c.args.at.now.function.locals (omega arith) _ c.args.next _ _ _ c.requires.act (stands _ _ c.in_ok-node.ensures.pushed refl)
