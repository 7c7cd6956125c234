use Rattle.ca_model.proofs.OnePlan.{one_plan}
use Rattle.ca_model.proofs.SoundPlan.{sound}
use Rattle.ca_model.proofs.plan_laws.the_plan_of_a_source_is_sound.Goals as goal

pub returns-clause-fits : goal.returns-clause-fits
returns-clause-fits c = λ p o plan is. is.fits

pub returns-clause-sound : goal.returns-clause-sound
returns-clause-sound c = λ p formed o plan is. sound p formed o plan is

pub returns-clause-one : goal.returns-clause-one
returns-clause-one c = one_plan
