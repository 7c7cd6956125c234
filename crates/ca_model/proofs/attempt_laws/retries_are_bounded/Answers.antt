use Rattle.ca_model.proofs.Bounded.{bounded}
use Rattle.ca_model.proofs.attempt_laws.retries_are_bounded.Goals as goal

pub returns : goal.returns
returns c = bounded
