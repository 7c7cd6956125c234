use Rattle.ca_shared.proofs.Legality.{legal_keep}
use Rattle.ca_shared.proofs.laws.legal_entries_keep_numbers.Goals as goal

pub returns : goal.returns
returns c = legal_keep
