-- Places in a text of UTF-8: lines end at a line feed, and columns count characters.
use Rattle.std.specs.Prelude.{ℕ, ◌+◌, ◌==◌, List, [], ◌∷◌, if◌then◌else◌}
use Rattle.std.specs.Fmt.{is_char_start}
use Rattle.ca_tree.specs.declared.text.Pos.{Pos}

-- the place of the first character
abbrev pub start : Pos
start = record { line = 1; column = 1 }

abbrev pub next_line : Pos → Pos
next_line p = record { line = p.line + 1; column = 1 }

abbrev pub next_column : Pos → Pos
next_column p = record { line = p.line; column = p.column + 1 }

-- the place after one more byte
abbrev pub after_byte : Pos → ℕ → Pos
after_byte p b = if b == 10 then next_line p else (if is_char_start b then next_column p else p)

-- the place after some bytes
abbrev pub after : Pos → List ℕ → Pos
after p [] = p
after p (b ∷ bs) = after (after_byte p b) bs
