-- The formats of `printf` (C11 7.21.6.1). Byte 37 is a percent, and 100 a `d`.
use Rattle.std.specs.Prelude.{ℕ, ◌+◌, Bool, true, not, ◌&&◌, ◌||◌, ◌==◌, List, [], ◌∷◌, if◌then◌else◌}

-- byte 37 is a percent, and 100 a `d`: how many `%d` a format has, and whether each percent begins one or stands before another
abbrev pub directives : List ℕ → ℕ
directives [] = 0
directives (b ∷ []) = 0
directives (b ∷ c ∷ more) = if b == 37 then (if c == 100 then 1 else 0) + directives more else directives (c ∷ more)

abbrev pub is_format : List ℕ → Bool
is_format [] = true
is_format (b ∷ []) = not (b == 37)
is_format (b ∷ c ∷ more) = if b == 37 then (c == 100 || c == 37) && is_format more else is_format (c ∷ more)
