use Rattle.ca_model.proofs.OnePlan.{one_plan}
use Rattle.ca_plan.proofs.Naming.{one_first}
use Rattle.ca_plan.proofs.laws.a_source_has_one_plan.Goals as goal

pub returns-clause-plan : goal.returns-clause-plan
returns-clause-plan c = one_plan

pub returns-clause-no_such_site : goal.returns-clause-no_such_site
returns-clause-no_such_site c = one_first
