use Rattle.ca_tree.specs.TreeWords.{text_words}
use Rattle.ca_sites.proofs.ProgramsShown.{text_shows}
use Rattle.ca_sites.proofs.laws.text_shows_sites.Goals as goal

pub returns : goal.returns
returns c = λ x h. text_shows text_words x.program x.typed h.program h.typing
