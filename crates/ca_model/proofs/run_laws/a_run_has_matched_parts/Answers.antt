use Rattle.ca_model.proofs.Matching.{run_matched}
use Rattle.ca_model.proofs.run_laws.a_run_has_matched_parts.Goals as goal

pub returns : goal.returns
returns c = run_matched
