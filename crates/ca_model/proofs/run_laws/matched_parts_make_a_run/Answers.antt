use Rattle.ca_model.proofs.Matching.{matched_run}
use Rattle.ca_model.proofs.run_laws.matched_parts_make_a_run.Goals as goal

pub returns : goal.returns
returns c = matched_run
