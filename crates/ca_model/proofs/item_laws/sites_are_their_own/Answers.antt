use Rattle.ca_model.proofs.Numbers.{has_its_own_sites}
use Rattle.ca_model.proofs.item_laws.sites_are_their_own.Goals as goal

pub returns : goal.returns
returns c = has_its_own_sites c.args.a.now
