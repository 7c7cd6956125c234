use Rattle.ca_lower.proofs.CodeOfActs.{ends_work}
use Rattle.ca_lower.proofs.builder.Builder.work_by_act.Goals as goal

pub returns-in_ok-start-in-Return-None-clause-adds : goal.returns-in_ok-start-in-Return-None-clause-adds
returns-in_ok-start-in-Return-None-clause-adds c g width le stands = ends_work _ g _ width _ _ _ (c.in_ok-start-in-Return-None.ensures.adds g width le stands)
