-- What a checked source has.
use Rattle.std.proofs.Common.{◌≡◌, sym, ap}
use Rattle.ca_model.specs.Codes.{Typed}
use Rattle.ca_model.specs.typing.Programs.{definitions}
use Rattle.ca_model.specs.typing.Typing.{main_number}
use Rattle.ca_tree.specs.TreeWords.{text_words}
use Rattle.ca_model.specs.typing.Sources.{Source, IsChecked}
use Rattle.ca_model.specs.WellFormed.{IsWellFormed}
use Rattle.ca_model.specs.KnownGlobals.{KnowsItsGlobals}
use Rattle.ca_model.specs.Bounds.{IsBounded}
use Rattle.ca_model.proofs.TypedCounts.{typing_is_counted, well_formed_by, bounded_by}
use Rattle.ca_model.proofs.NamesKnown.{names_known, acts_bounded, knows_its_globals}

pub well_formed : (x : Source) → IsChecked x → IsWellFormed x.typed
well_formed x is = well_formed_by (typing_is_counted is.program is.typing) (names_known text_words x.program x.typed is.program is.typing)

pub known_globals : (x : Source) → IsChecked x → KnowsItsGlobals x.typed
known_globals x is = knows_its_globals text_words x.program x.typed is.program is.typing

pub bounded : (x : Source) → IsChecked x → IsBounded x.typed
bounded x is = bounded_by (typing_is_counted is.program is.typing) (acts_bounded text_words x.program x.typed is.program is.typing)

-- which function is `main`
pub main_is : (x : Source) → IsChecked x → main_number 0 (definitions x.program.tops) ≡ x.typed.main
main_is x is = ap (λ (t : Typed). t.main) (sym is.typing.is)
