use Rattle.ca_model.proofs.BegunOnce.{well_formed_once}
use Rattle.ca_model.proofs.frame_laws.items_begin_once.Goals as goal

pub returns : goal.returns
returns c = well_formed_once
