use Rattle.ca_commands.proofs.OneMeaning.{one_meaning}
use Rattle.ca_commands.proofs.laws.words_have_one_meaning.Goals as goal

pub returns : goal.returns
returns c = one_meaning
