use Rattle.ca_check.proofs.Answering.{one_projection}
use Rattle.ca_check.proofs.laws.a_list_has_one_projection.Goals as goal

pub returns : goal.returns
returns c = one_projection
