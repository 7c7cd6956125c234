-- The links of a function by the numbers of its items, counted from the lowest.
use Rattle.std.specs.Prelude.{◌≡◌, ◌-◌, ℕ, Bool, true, false, List, Contains, ◌⊎◌}
use Rattle.ca_reach.specs.Reach.{IsSet}
use Rattle.ca_flow.specs.declared.links.Link.{Link}

-- a number is the start or is set
abbrev pub IsAt : ℕ → List Bool → ℕ → Type 0
IsAt start flags n = (n ≡ start) ⊎ IsSet flags n

-- a link leads from m to n, and the item at m destroys or not
abbrev pub IsLinked : ℕ → List Link → Bool → ℕ → ℕ → Type 0
IsLinked lowest links b m n = (l : Link) × Contains links l × (l.destroys ≡ b) × (l.to.0 - lowest ≡ n) × (l.from.0 - lowest ≡ m)

abbrev pub IsBack : ℕ → List Link → ℕ → ℕ → Type 0
IsBack lowest links n m = IsLinked lowest links false m n

-- an item that destroys is linked to one of some
abbrev pub IsEnd : ℕ → List Link → (ℕ → Type 0) → ℕ → Type 0
IsEnd lowest links At m = (n : ℕ) × At n × IsLinked lowest links true m n
