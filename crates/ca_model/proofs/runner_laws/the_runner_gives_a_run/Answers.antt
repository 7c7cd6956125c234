use Rattle.std.proofs.Common.{arith, subst}
use Rattle.std.specs.Prelude.{length}
use Rattle.ca_model.specs.Codes.{code_of}
use Rattle.ca_model.specs.Opening.{opening_shared}
use Rattle.ca_model.proofs.RunnerEnds.{runs_end}
use Rattle.ca_model.proofs.RunnerRuns.{runs}
use Rattle.ca_model.proofs.RunnerStates.{Reached, opening_reached}
use Rattle.ca_model.proofs.runner_laws.the_runner_gives_a_run.Goals as goal

pub returns-clause-run : goal.returns-clause-run
returns-clause-run c = λ p plan s events patience list end f. runs (code_of p plan) events patience f

pub returns-clause-ending : goal.returns-clause-ending
returns-clause-ending c = λ p plan s events patience list end few f.
    runs_end (code_of p plan) events patience (length p.globals) few (omega arith) (subst (Reached (opening_shared p)) (omega arith) (opening_reached p)) f
