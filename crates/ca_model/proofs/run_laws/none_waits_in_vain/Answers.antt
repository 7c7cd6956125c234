use Rattle.ca_model.proofs.Waiting.{none_waits_hardened, none_waits_in_a_source}
use Rattle.ca_model.proofs.run_laws.none_waits_in_vain.Goals as goal

pub returns-clause-hardened : goal.returns-clause-hardened
returns-clause-hardened c = none_waits_hardened

pub returns-clause-source : goal.returns-clause-source
returns-clause-source c = none_waits_in_a_source
