-- Formats, one byte at a time.
use Rattle.std.specs.Prelude.{ℕ, Bool, false, not, ◌==◌, ◌&&◌, ◌||◌, List, [], ◌∷◌, if◌then◌else◌}

abbrev pub begins_with : List ℕ → ℕ → Bool
begins_with [] b = false
begins_with (c ∷ more) b = c == b

-- 1 where a byte and what follows begin with `%d`
abbrev pub directive : ℕ → List ℕ → ℕ
directive b more = if b == 37 && begins_with more 100 then 1 else 0

-- a percent stands before a `d` or a percent
abbrev pub is_known : ℕ → List ℕ → Bool
is_known b more = not (b == 37) || (begins_with more 100 || begins_with more 37)

-- what stands behind a byte; behind a percent the next byte is passed too
abbrev pub past : ℕ → List ℕ → List ℕ
past b [] = []
past b (c ∷ more) = if b == 37 then more else c ∷ more
