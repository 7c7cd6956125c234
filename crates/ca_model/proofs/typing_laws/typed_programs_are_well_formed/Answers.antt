use Rattle.ca_tree.specs.TreeWords.{text_words}
use Rattle.ca_model.proofs.TypedCounts.{typing_is_counted, well_formed_by, bounded_by}
use Rattle.ca_model.proofs.NamesKnown.{names_known, acts_bounded, knows_its_globals}
use Rattle.ca_model.proofs.typing_laws.typed_programs_are_well_formed.Goals as goal

pub returns-clause-well_formed : goal.returns-clause-well_formed
returns-clause-well_formed c = λ p t is typing. well_formed_by (typing_is_counted is typing) (names_known text_words p t is typing)

pub returns-clause-globals : goal.returns-clause-globals
returns-clause-globals c = λ p t is typing. knows_its_globals text_words p t is typing

pub returns-clause-bounded : goal.returns-clause-bounded
returns-clause-bounded c = λ p t is typing. bounded_by (typing_is_counted is typing) (acts_bounded text_words p t is typing)
