use Rattle.ca_sites.proofs.LoadsPlaced.{values_placed, targets_placed}
use Rattle.ca_sites.proofs.laws.loads_have_their_places.Goals as goal

pub returns-clause-values : goal.returns-clause-values
returns-clause-values c = values_placed

pub returns-clause-targets : goal.returns-clause-targets
returns-clause-targets c = targets_placed
