-- Arguments, one after another.
use Rattle.std.specs.Prelude.{List, [], ◌∷◌, Option, None}
use Rattle.ca_model.specs.declared.types.ObjectType.{ObjectType}

-- the type of the first parameter; where there is none, its argument goes anywhere
abbrev pub first_type : List (Option ObjectType) → Option ObjectType
first_type [] = None
first_type (t ∷ more) = t
