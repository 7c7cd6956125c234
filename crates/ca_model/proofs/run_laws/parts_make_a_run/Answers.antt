use Rattle.ca_model.specs.Source.{source}
use Rattle.ca_model.specs.Hardened.{hardened}
use Rattle.ca_model.proofs.Composition.{parts_make_runs}
use Rattle.ca_model.proofs.Creates.{source_creates, hardened_creates}
use Rattle.ca_model.proofs.run_laws.parts_make_a_run.Goals as goal

pub returns-clause-of_source : goal.returns-clause-of_source
returns-clause-of_source c = λ code. parts_make_runs (source code) (source_creates code)

pub returns-clause-of_hardened : goal.returns-clause-of_hardened
returns-clause-of_hardened c = λ code. parts_make_runs (hardened code) (hardened_creates code)
