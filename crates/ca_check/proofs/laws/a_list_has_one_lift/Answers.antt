use Rattle.ca_check.proofs.Answering.{one_lift}
use Rattle.ca_check.proofs.laws.a_list_has_one_lift.Goals as goal

pub returns : goal.returns
returns c = one_lift
