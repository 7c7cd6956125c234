-- Lists whose elements are numbered one after another.
use Rattle.std.proofs.Common.{◌≡◌, ℕ, zero, suc, ◌+◌, List, [], ◌∷◌, ◌++◌, length, Some, ap, arith}
use Rattle.std.specs.Prelude.{slice_get}
use Rattle.ca_model.proofs.Law.{one_of}

-- from n on, and m is the number behind them
pub data Ascends {A : Type 0} (number : A → ℕ) : ℕ → List A → ℕ → Type 0 where
  no_more : {n : ℕ} → Ascends number n [] n
  one_more : {n m : ℕ} {x : A} {xs : List A} → number x ≡ n → Ascends number (suc n) xs m → Ascends number n (x ∷ xs) m

module _ {A : Type 0} {number : A → ℕ} where
  pub just_one : {n : ℕ} (x : A) → number x ≡ n → Ascends number n (x ∷ []) (suc n)
  just_one x is = one_more is no_more

  pub and_more : {n k m : ℕ} {xs ys : List A} → Ascends number n xs k → Ascends number k ys m → Ascends number n (xs ++ ys) m
  and_more no_more more = more
  and_more (one_more is h) more = one_more is (and_more h more)

  pub how_many : {n m : ℕ} {xs : List A} → Ascends number n xs m → m ≡ n + length xs
  how_many no_more = omega arith
  how_many (one_more is h) = let rest = how_many h in omega arith

  pub number_of : {n m : ℕ} {xs : List A} → Ascends number n xs m → (k : ℕ) (x : A) → slice_get xs k ≡ Some x → number x ≡ n + k
  number_of no_more k x at = absurd (cc)
  number_of (one_more {x = y} is h) zero x at =
      let same : number y ≡ number x = ap number (one_of y x at) in
      omega arith
  number_of (one_more is h) (suc k) x at = let rest = number_of h k x at in omega arith

  pub parted : {n m : ℕ} (xs : List A) {ys : List A} → Ascends number n (xs ++ ys) m → (k : ℕ) × Ascends number n xs k × Ascends number k ys m
  parted {n = n} [] h = (n, no_more, h)
  parted (x ∷ xs) (one_more is h) = let rest = parted xs h in (rest.0, one_more is rest.1, rest.2)

  pub last_number : {n m : ℕ} (xs : List A) {x : A} → Ascends number n (xs ++ x ∷ []) m → suc (number x) ≡ m
  last_number [] (one_more is no_more) = ap suc is
  last_number (y ∷ xs) (one_more is h) = last_number xs h
