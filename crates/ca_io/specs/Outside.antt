-- What the calls of the outside may answer, and what they leave.
use Rattle.std.specs.Prelude.{◌≡◌, ◌≤◌, ◌<◌, ◌+◌, ◌-◌, ◌^◌, ◌⊎◌, ℕ, List, ◌++◌, length, Option, IfSome, min}
use Rattle.std.specs.Io.KnownBytes.{Appends}

-- a count of 64 bits after one more, which stands still at its last value
abbrev pub one_more : ℕ → ℕ
one_more n = min (n + 1) (2 ^ 64 - 1)

-- a count has risen, or stands at its last value
abbrev pub Rose : ℕ → ℕ → Type 0
Rose before now = one_more before ≤ now

-- known bytes grow by a front of the piece
abbrev pub AppendsPart : Option (List ℕ) → Option (List ℕ) → List ℕ → Type 0
AppendsPart old new piece = (front rest : List ℕ) × (piece ≡ front ++ rest) × Appends old new front

-- where the contents are told, they are these
abbrev pub IsTold : Option (List ℕ) → List ℕ → Type 0
IsTold told bytes = IfSome told (λ held. bytes ≡ held)

-- all bytes that are held, or a front of them that is longer than the limit
abbrev pub IsEnough : ℕ → List ℕ → List ℕ → Type 0
IsEnough limit held bytes = (bytes ≡ held) ⊎ ((limit < length bytes) × (limit < length held))
