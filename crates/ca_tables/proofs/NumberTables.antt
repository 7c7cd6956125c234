-- Tables of numbers.
use Rattle.std.proofs.Common.{◌≡◌, ℕ, Bool, false, List}
use Rattle.std.specs.Prelude.{◌==◌, ◌||◌, get_or, drop}
use Rattle.std.specs.List.{list_any}

-- what a table tells with the numbers that are still to come
pub record TellsSoFar {A : Type 0} (table : List Bool) (number : A → ℕ) (k : ℕ) (xs : List A) : Type 0 where
  pub at : (n : ℕ) → list_any (λ x. number x == n) xs ≡ (get_or table n false || list_any (λ x. number x == n) (drop k xs))
