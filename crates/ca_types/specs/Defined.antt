-- What a declaration defines, before what those behind it define.
use Rattle.std.specs.Prelude.{List, ◌∷◌, Option, Some, None}

abbrev pub with_first : {A : Type 0} → Option A → List A → List A
with_first None xs = xs
with_first (Some x) xs = x ∷ xs
