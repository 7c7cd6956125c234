-- The functions that a program defines, one declaration after another.
use Rattle.std.specs.Prelude.{List, ◌∷◌, Option, Some, None}
use Rattle.ca_tree.specs.declared.tree.Function.{Function}

abbrev pub with_first : Option Function → List Function → List Function
with_first None fs = fs
with_first (Some f) fs = f ∷ fs
