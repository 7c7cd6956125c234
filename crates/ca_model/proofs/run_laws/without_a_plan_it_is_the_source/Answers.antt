use Rattle.ca_model.proofs.PlainRuns.{runs_alike}
use Rattle.ca_model.proofs.run_laws.without_a_plan_it_is_the_source.Goals as goal

pub returns : goal.returns
returns c = runs_alike
