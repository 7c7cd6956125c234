-- What is reached along links, and a step of its search.
use Rattle.std.specs.Prelude.{◌≡◌, ◌<◌, ◌+◌, ℕ, suc, Bool, true, false, List, [], ◌∷◌, map, length, Contains, Some, slice_get, get_or, ◌⊎◌, ◌↔◌}
use Rattle.std.specs.Global.{Vec}

-- a table of links has a row for each number: those to which it is linked
abbrev pub Table : Type 0
Table = List (List ℕ)

abbrev pub row : Table → ℕ → List ℕ
row links n = get_or links n []

abbrev pub rows_of : List (Vec ℕ) → Table
rows_of = map (λ v. v.items)

-- the numbers of a table that are reached from some
pub data Reached (links : Table) (starts : List ℕ) : ℕ → Type 0 where
  begins : {n : ℕ} → Contains starts n → n < length links → Reached links starts n
  goes : {n m : ℕ} → Reached links starts n → Contains (row links n) m → m < length links → Reached links starts m

abbrev pub IsSet : List Bool → ℕ → Type 0
IsSet flags n = slice_get flags n ≡ Some true

-- how many flags are not set
abbrev pub unset : List Bool → ℕ
unset [] = 0
unset (true ∷ bs) = unset bs
unset (false ∷ bs) = suc (unset bs)

-- flags are set for numbers that are within them, and what is new is still to do
pub record Spreads (flags : List Bool) (todo : List ℕ) (flags' : List Bool) (todo' : List ℕ) (numbers : List ℕ) : Type 0 where
  pub same_length : length flags' ≡ length flags
  pub kept : (n : ℕ) → IsSet flags n → IsSet flags' n
  pub has : (n : ℕ) → Contains numbers n → n < length flags → IsSet flags' n
  pub only : (n : ℕ) → IsSet flags' n → IsSet flags n ⊎ (Contains numbers n × Contains todo' n)
  pub todo_kept : (n : ℕ) → Contains todo n → Contains todo' n
  pub todo_only : (n : ℕ) → Contains todo' n → Contains todo n ⊎ IsSet flags' n
  pub measure : unset flags' + length todo' ≡ unset flags + length todo

-- one table has one link more than another, if there is a row for it
abbrev pub Adds : Table → Table → ℕ → ℕ → Type 0
Adds t t' n m = (k x : ℕ) → Contains (row t' k) x ↔ (Contains (row t k) x ⊎ ((k ≡ n) × (x ≡ m) × (n < length t)))
