-- A string at the head of a text, by its length.
use Rattle.std.specs.Prelude.{◌≡◌, ◌≤◌, ◌<◌, ◌+◌, ℕ, true, List, ◌∷◌, ◌++◌, length, take, drop, Some}
use Rattle.std.specs.List.{list_all}
use Rattle.ca_tree.specs.Tokens.{Unit_of_string, is_unit, spelled, values, A_string, IsLongest}
use Rattle.ca_tree.specs.Lexed.{IsClosed, IsFirstBad}
use Rattle.ca_lex.specs.declared.strings.Quoted.{Quoted}
use Rattle.ca_lex.specs.declared.strings.Quoted.TheVariants as quoted

-- a string of this length and what it stands for; one that its line doesn't end; or the place of an escape that is none
abbrev pub StringAt : List ℕ → Quoted → Type 0
StringAt text (quoted.Closed len bytes) = IsLongest text (A_string bytes) (take len text) (drop len text) × (0 < len) × (len ≤ length text)
StringAt text quoted.Open = (us : List Unit_of_string) → IsClosed text us → ⊥
StringAt text (quoted.Bad at) = (us : List Unit_of_string) × (good : List Unit_of_string) × IsClosed text us × IsFirstBad us good × (take at text ≡ 34 ∷ spelled good) × (at < length text)

-- the characters of a string, without its quotes
abbrev pub AreUnits : List ℕ → List Unit_of_string → Type 0
AreUnits bytes us = (bytes ≡ spelled us) × (list_all is_unit us ≡ true)

-- behind the first `"`, so many bytes stand before the last one
abbrev pub ClosesAt : List ℕ → ℕ → Type 0
ClosesAt text n = (us : List Unit_of_string) × (rest : List ℕ) × AreUnits (take n text) us × (drop n text ≡ 34 ∷ rest) × (n < length text)

abbrev pub NoClose : List ℕ → Type 0
NoClose text = (us : List Unit_of_string) (rest : List ℕ) → text ≡ spelled us ++ 34 ∷ rest → list_all is_unit us ≡ true → ⊥

-- what stands between the quotes gives a string, with both quotes, or its first escape that is none, behind the first quote
abbrev pub UnitsGive : List ℕ → Quoted → Type 0
UnitsGive units (quoted.Closed len bytes) = (us : List Unit_of_string) × AreUnits units us × (values us ≡ Some bytes) × (len ≡ length units + 2)
UnitsGive units quoted.Open = ⊥
UnitsGive units (quoted.Bad at) = (us : List Unit_of_string) × (good : List Unit_of_string) × AreUnits units us × IsFirstBad us good × (at ≡ length (spelled good) + 1)
