-- The registers with which a call begins.
use Rattle.std.proofs.Common.{arith, ◌≡◌, ℕ, zero, suc, ◌+◌, ◌-◌, ◌<◌, ◌≤◌, List, [], ◌∷◌, ◌++◌, length, take, replicate, refl, sym, ap, ◌∙◌, inl, inr}
use Rattle.std.specs.Prelude.{get_or}
use Rattle.std.proofs.lemmas.Bool.{cases_lt}
use Rattle.std.proofs.lemmas.List.{take_more, get_or-replicate, get_or_append_left, get_or-append_right, get_or_past, length-replicate, length-append}
use Rattle.ca_model.specs.declared.values.Value.{Value}
use Rattle.ca_model.specs.Arith.{null}
use Rattle.ca_model.specs.Eval.{local}

local_is : (ys : List Value) (k : ℕ) → local ys k ≡ get_or ys k null
local_is [] zero = refl
local_is [] (suc k) = refl
local_is (y ∷ ys) zero = refl
local_is (y ∷ ys) (suc k) = local_is ys k

one_more : (ys : List Value) (k : ℕ) → k < length ys → take (k + 1) ys ≡ take k ys ++ local ys k ∷ []
one_more ys k lt = take_more ys k null lt ∙ ap (λ x. take k ys ++ x ∷ []) (sym (local_is ys k))

at_place : (xs : List Value) (n k : ℕ) → k < n → local (xs ++ replicate n null) k ≡ local xs k
at_place xs n k lt = local_is (xs ++ replicate n null) k ∙ (elim (cases_lt k (length xs)) [
  | inl less ↦ get_or_append_left xs (replicate n null) null k less
  | inr more ↦ get_or-append_right xs (replicate n null) (length xs) k null refl more ∙ (get_or-replicate n (k - length xs) null null (omega (arith, lt, more)) ∙ sym (get_or_past xs k null more))
] ∙ sym (local_is xs k))

pub row_next : (xs row : List Value) (n k : ℕ) → k < n → row ≡ take k (xs ++ replicate n null) → row ++ local xs k ∷ [] ≡ take (k + 1) (xs ++ replicate n null)
row_next xs row n k lt is =
    let long : k < length (xs ++ replicate n null) = omega (arith, lt, length-append xs (replicate n null), length-replicate n null) in
    ap (λ l. l ++ local xs k ∷ []) is ∙ (ap (λ x. take k (xs ++ replicate n null) ++ x ∷ []) (sym (at_place xs n k lt)) ∙ sym (one_more (xs ++ replicate n null) k long))

-- fewer of them
take_less : (xs : List Value) (low n : ℕ) → low ≤ n → take low (take n (xs ++ replicate n null)) ≡ take low (xs ++ replicate low null)
take_less xs zero n le = refl
take_less [] (suc low) zero le = absurd (omega (arith, le))
take_less [] (suc low) (suc n) le = ap (λ l. null ∷ l) (take_less [] low n (omega (arith, le)))
take_less (x ∷ xs) (suc low) zero le = absurd (omega (arith, le))
take_less (x ∷ xs) (suc low) (suc n) le = ap (λ l. x ∷ l) (shifted xs low n (omega (arith, le)))
  where
    more_nulls : (xs : List Value) (low n m : ℕ) → low ≤ n → low ≤ m → take low (xs ++ replicate n null) ≡ take low (xs ++ replicate m null)
    more_nulls xs zero n m a b = refl
    more_nulls [] (suc low) zero m a b = absurd (omega (arith, a))
    more_nulls [] (suc low) (suc n) zero a b = absurd (omega (arith, b))
    more_nulls [] (suc low) (suc n) (suc m) a b = ap (λ l. null ∷ l) (more_nulls [] low n m (omega (arith, a)) (omega (arith, b)))
    more_nulls (x ∷ xs) (suc low) n m a b = ap (λ l. x ∷ l) (more_nulls xs low n m (omega (arith, a)) (omega (arith, b)))

    take_take : (ys : List Value) (low n : ℕ) → low ≤ n → take low (take n ys) ≡ take low ys
    take_take ys zero n le = refl
    take_take [] (suc low) zero le = refl
    take_take [] (suc low) (suc n) le = refl
    take_take (y ∷ ys) (suc low) zero le = absurd (omega (arith, le))
    take_take (y ∷ ys) (suc low) (suc n) le = ap (λ l. y ∷ l) (take_take ys low n (omega (arith, le)))

    shifted : (xs : List Value) (low n : ℕ) → low ≤ n → take low (take n (xs ++ replicate (suc n) null)) ≡ take low (xs ++ replicate (suc low) null)
    shifted xs low n le = take_take (xs ++ replicate (suc n) null) low n le ∙ more_nulls xs low (suc n) (suc low) (omega (arith, le)) (omega arith)

pub first_of_row : (xs : List Value) (low n : ℕ) → low ≤ n → take low (take n (xs ++ replicate n null)) ≡ take low (xs ++ replicate low null)
first_of_row = take_less

pub row_length : (xs : List Value) (n : ℕ) → length (take n (xs ++ replicate n null)) ≡ n
row_length xs n = full (xs ++ replicate n null) n (omega (arith, length-append xs (replicate n null), length-replicate n null))
  where
    full : (ys : List Value) (n : ℕ) → n ≤ length ys → length (take n ys) ≡ n
    full ys zero le = refl
    full [] (suc n) le = absurd (omega (arith, le))
    full (y ∷ ys) (suc n) le = ap suc (full ys n (omega (arith, le)))
