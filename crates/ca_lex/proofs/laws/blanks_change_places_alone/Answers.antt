use Rattle.ca_lex.proofs.OwnWords.{one_list_of_words, from_any_place, words_behind_skip, words_behind_token}
use Rattle.ca_lex.proofs.laws.blanks_change_places_alone.Goals as goal

pub returns-clause-one : goal.returns-clause-one
returns-clause-one c = one_list_of_words

pub returns-clause-place : goal.returns-clause-place
returns-clause-place c = from_any_place

pub returns-clause-skipped : goal.returns-clause-skipped
returns-clause-skipped c = words_behind_skip

pub returns-clause-token : goal.returns-clause-token
returns-clause-token c = words_behind_token
