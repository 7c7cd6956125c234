use Rattle.std.proofs.Common.{[], arith, subst}
use Rattle.std.specs.Prelude.{length}
use Rattle.ca_model.specs.Codes.{code_of}
use Rattle.ca_model.specs.Hardened.{hardened}
use Rattle.ca_model.specs.Opening.{opening, opening_shared}
use Rattle.ca_model.proofs.RunnerEnds.{some_run}
use Rattle.ca_model.proofs.RunnerRuns.{one_run}
use Rattle.ca_model.proofs.RunnerStates.{Reached, opening_reached}
use Rattle.ca_model.proofs.runner_laws.the_runner_is_a_function.Goals as goal

pub returns-clause-at_most_one : goal.returns-clause-at_most_one
returns-clause-at_most_one c = λ p plan s events patience first second x y f g. one_run (code_of p plan) events patience (length p.globals) (opening_reached p) f g

pub returns-clause-at_least_one : goal.returns-clause-at_least_one
returns-clause-at_least_one c = λ p plan s events patience few.
    some_run (code_of p plan) events patience (length p.globals) few events s (opening (hardened (code_of p plan)) p) [] (omega arith) (subst (Reached (opening_shared p)) (omega arith) (opening_reached p))
