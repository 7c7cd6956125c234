use Rattle.ca_lower.proofs.Growing.{grows_on}
use Rattle.ca_lower.proofs.Turning.{none_steps, item_steps, grows_in}
use Rattle.ca_lower.proofs.builder.Builder.work_if_any.Goals as goal

pub returns-in-None-clause-adds : goal.returns-in-None-clause-adds
returns-in-None-clause-adds c g width le stands = none_steps _ g _ width _ _ c.in-None.is

pub returns-in_ok-start-in-Some-clause-adds : goal.returns-in_ok-start-in-Some-clause-adds
returns-in_ok-start-in-Some-clause-adds c g width le stands =
    item_steps c.args.scope.now c.at-at.result g width _ _ _ _ _ c.at-at.ensures c.in-Some.is (c.in_ok-start-in-Some.ensures.adds g width le stands) (c.in_ok-after-in-Some.ensures.adds g width (c.in_ok-start-in-Some.ensures.grows.stands g stands))

pub returns-in_ok-start-in-Some-clause-grows : goal.returns-in_ok-start-in-Some-clause-grows
returns-in_ok-start-in-Some-clause-grows c =
    grows_in _ _ _ _ _ c.at-at.ensures (grows_on _ _ _ _ c.in_ok-after-in-Some.ensures.grows c.in_ok-start-in-Some.ensures.grows)
