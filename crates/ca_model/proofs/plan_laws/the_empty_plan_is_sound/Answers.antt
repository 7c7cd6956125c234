use Rattle.ca_model.proofs.NoPlan.{no_plan_fits, no_plan_is_sound}
use Rattle.ca_model.proofs.plan_laws.the_empty_plan_is_sound.Goals as goal

pub returns-clause-fits : goal.returns-clause-fits
returns-clause-fits c = no_plan_fits

pub returns-clause-sound : goal.returns-clause-sound
returns-clause-sound c = no_plan_is_sound
