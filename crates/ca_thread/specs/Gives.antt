-- Walking along a list of what was taken.
use Rattle.std.specs.Prelude.{Bool, false, ◌||◌, List, [], ◌∷◌, ◌++◌, if◌then◌else◌}
use Rattle.ca_model.specs.declared.values.Given.{Given}
use Rattle.ca_model.specs.Hardened.{same_given}

-- what is left of a list behind one thing
abbrev pub behind : List Given → Given → List Given
behind [] h = []
behind (g ∷ gs) h = if same_given g h then gs else g ∷ gs

-- whether a list has a thing, and the list with it at its end, if it is new
abbrev pub has : List Given → Given → Bool
has [] h = false
has (g ∷ gs) h = same_given g h || has gs h

abbrev pub with_new : List Given → Given → List Given
with_new gs h = if has gs h then gs else gs ++ h ∷ []

-- so one thing after another
abbrev pub collected : List Given → List Given → List Given
collected gs [] = gs
collected gs (h ∷ hs) = collected (with_new gs h) hs
