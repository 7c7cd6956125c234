use Rattle.ca_model.proofs.Followed.{well_formed_follows}
use Rattle.ca_model.proofs.frame_laws.control_follows_links.Goals as goal

pub returns : goal.returns
returns c = well_formed_follows
