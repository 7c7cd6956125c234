use Rattle.ca_model.specs.Source.{source}
use Rattle.ca_model.specs.Hardened.{hardened}
use Rattle.ca_model.proofs.Composition.{runs_come_apart}
use Rattle.ca_model.proofs.Creates.{source_creates, hardened_creates}
use Rattle.ca_model.proofs.run_laws.runs_come_apart.Goals as goal

pub returns-clause-of_source : goal.returns-clause-of_source
returns-clause-of_source c = λ code. runs_come_apart (source code) (source_creates code)

pub returns-clause-of_hardened : goal.returns-clause-of_hardened
returns-clause-of_hardened c = λ code. runs_come_apart (hardened code) (hardened_creates code)
