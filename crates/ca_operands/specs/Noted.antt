-- The first fault of some, found one after another.
use Rattle.std.specs.Prelude.{List, [], ◌∷◌, Option, Some, None, if◌then◌else◌}
use Rattle.ca_model.specs.declared.types.TypeFault.{TypeFault}
use Rattle.ca_model.specs.typing.Faults.{is_before}

abbrev pub sooner : Option TypeFault → TypeFault → TypeFault
sooner None x = x
sooner (Some first) x = if is_before x first then x else first

abbrev pub noted : Option TypeFault → List TypeFault → Option TypeFault
noted first [] = first
noted first (x ∷ xs) = noted (Some (sooner first x)) xs
