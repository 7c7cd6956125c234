-- Places of tokens that may be there.
use Rattle.std.specs.Prelude.{◌≡◌, Option, Some, None}
use Rattle.ca_tree.specs.declared.text.Pos.{Pos}
use Rattle.ca_tree.specs.declared.token.Token.{Token}

-- the place of a token, if there is one
abbrev pub IsPosOf : Option Token → Option Pos → Type 0
IsPosOf (Some u) p = p ≡ Some u.pos
IsPosOf None p = p ≡ None
