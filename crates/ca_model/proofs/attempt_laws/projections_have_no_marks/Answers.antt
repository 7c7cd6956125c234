use Rattle.ca_model.proofs.Projected.{projected_unmarked, projection_unmarked, projection_once}
use Rattle.ca_model.proofs.attempt_laws.projections_have_no_marks.Goals as goal

pub returns-clause-none : goal.returns-clause-none
returns-clause-none c = projected_unmarked

pub returns-clause-unmarked : goal.returns-clause-unmarked
returns-clause-unmarked c = projection_unmarked

pub returns-clause-once : goal.returns-clause-once
returns-clause-once c = projection_once
