use Rattle.std.proofs.Common.{sym}
use Rattle.ca_model.proofs.Silent.{answered_stands, started_stands, settled_on}
use Rattle.ca_model.proofs.frame_laws.silent_steps_end.Goals as goal

pub returns-clause-after_an_answer : goal.returns-clause-after_an_answer
returns-clause-after_an_answer c = answered_stands

pub returns-clause-at_the_start : goal.returns-clause-at_the_start
returns-clause-at_the_start c = started_stands

pub returns-clause-one_step_on : goal.returns-clause-one_step_on
returns-clause-one_step_on c = λ code f d is. sym (settled_on code f d is)
