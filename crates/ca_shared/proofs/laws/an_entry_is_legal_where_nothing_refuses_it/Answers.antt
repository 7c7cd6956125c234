use Rattle.ca_shared.proofs.Legality.{exact}
use Rattle.ca_shared.proofs.laws.an_entry_is_legal_where_nothing_refuses_it.Goals as goal

pub returns : goal.returns
returns c = exact
