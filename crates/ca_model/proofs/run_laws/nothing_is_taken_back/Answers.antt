use Rattle.ca_model.specs.Source.{source}
use Rattle.ca_model.specs.Hardened.{hardened}
use Rattle.ca_model.proofs.Keeping.{runs_keep}
use Rattle.ca_model.proofs.run_laws.nothing_is_taken_back.Goals as goal

pub returns-clause-of_source : goal.returns-clause-of_source
returns-clause-of_source c = λ code. runs_keep (source code)

pub returns-clause-of_hardened : goal.returns-clause-of_hardened
returns-clause-of_hardened c = λ code. runs_keep (hardened code)
