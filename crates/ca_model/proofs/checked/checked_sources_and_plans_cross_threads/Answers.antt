use denote.Param.Send.{sendable}
use Rattle.std.proofs.Crossing.{crosses}
use Rattle.ca_model.proofs.CrossingTrees.{list_send, list_sync}
use Rattle.ca_model.proofs.CrossingSources.{checked_send, checked_sync}
use Rattle.ca_model.proofs.checked.checked_sources_and_plans_cross_threads.Goals as goal

pub returns-clause-checked_moves : goal.returns-clause-checked_moves
returns-clause-checked_moves c = checked_send

pub returns-clause-checked_is_shared : goal.returns-clause-checked_is_shared
returns-clause-checked_is_shared c = checked_sync

pub returns-clause-plan_moves : goal.returns-clause-plan_moves
returns-clause-plan_moves c = search (sendable, crosses, list_send) depth 40 fits 100000

pub returns-clause-plan_is_shared : goal.returns-clause-plan_is_shared
returns-clause-plan_is_shared c = search (sendable, crosses, list_sync) depth 40 fits 100000
