use Rattle.ca_model.proofs.SiteNumbers.{have_their_numbers}
use Rattle.ca_model.proofs.item_laws.sites_have_their_numbers.Goals as goal

pub returns : goal.returns
returns c = have_their_numbers
