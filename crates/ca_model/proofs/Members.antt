-- Elements of lists: of a list with one more, of those that pass a test, and whether some element passes it.
use Rattle.std.proofs.Common.{arith, ◌≡◌, zero, suc, Bool, true, false, List, [], ◌∷◌, refl, sym, ap, ◌∙◌, subst, inl, inr}
use Rattle.std.specs.Prelude.{Contains, ◌⊎◌, filter, cond}
use Rattle.std.specs.List.{list_any}
use Rattle.std.proofs.lemmas.List.Folds.{Any-from_list_any, list_any-from_Any}

pub in_none : {A : Type 0} (y : A) → Contains [] y → ⊥
in_none y (k, lt, is) = omega (arith, lt)

pub in_cons : {A : Type 0} (x : A) (xs : List A) (y : A) → Contains (x ∷ xs) y → (x ≡ y) ⊎ Contains xs y
in_cons x xs y (zero, lt, is) = inl is
in_cons x xs y (suc k, lt, is) = inr (k, omega (arith, lt), is)

pub in_one : {A : Type 0} (x y : A) → Contains (x ∷ []) y → x ≡ y
in_one x y c = elim (in_cons x [] y c) [ inl is ↦ is | inr more ↦ absurd (in_none y more) ]

pub in_two : {A : Type 0} (x z y : A) → Contains (x ∷ z ∷ []) y → (x ≡ y) ⊎ (z ≡ y)
in_two x z y c = elim (in_cons x (z ∷ []) y c) [ inl is ↦ inl is | inr more ↦ inr (in_one z y more) ]

pub at_head : {A : Type 0} (x : A) (xs : List A) → Contains (x ∷ xs) x
at_head x xs = (0, omega arith, refl)

pub at_tail : {A : Type 0} (x : A) (xs : List A) (y : A) → Contains xs y → Contains (x ∷ xs) y
at_tail x xs y (k, lt, is) = (suc k, omega (arith, lt), is)

-- some element passes a test
pub tested : {A : Type 0} (p : A → Bool) (xs : List A) (y : A) → Contains xs y → p y ≡ true → list_any p xs ≡ true
tested p xs y c t = list_any-from_Any p xs (c.0, y, c.1, c.2, t)

pub found : {A : Type 0} (p : A → Bool) (xs : List A) → list_any p xs ≡ true → (x : A) × Contains xs x × (p x ≡ true)
found p xs is = let a = Any-from_list_any p xs is in (a.1, (a.0, a.2, a.3), a.4)

-- the elements that pass a test
more_kept : {A : Type 0} (b : Bool) (x : A) (xs : List A) (y : A) → Contains xs y → Contains (cond b (x ∷ xs) xs) y
more_kept true x xs y c = at_tail x xs y c
more_kept false x xs y c = c

first_kept : {A : Type 0} (b : Bool) (x : A) (xs : List A) → b ≡ true → Contains (cond b (x ∷ xs) xs) x
first_kept true x xs is = at_head x xs
first_kept false x xs is = cc

of_kept : {A : Type 0} (b : Bool) (x : A) (xs : List A) (y : A) → Contains (cond b (x ∷ xs) xs) y → ((x ≡ y) × (b ≡ true)) ⊎ Contains xs y
of_kept true x xs y c = elim (in_cons x xs y c) [ inl is ↦ inl (is, refl) | inr more ↦ inr more ]
of_kept false x xs y c = inr c

pub kept : {A : Type 0} (p : A → Bool) (xs : List A) (y : A) → Contains xs y → p y ≡ true → Contains (filter p xs) y
kept p [] y c t = c
kept p (x ∷ xs) y c t = elim (in_cons x xs y c) [
  | inl is ↦ subst (λ z. Contains (filter p (x ∷ xs)) z) is (first_kept (p x) x (filter p xs) (ap p is ∙ t))
  | inr more ↦ more_kept (p x) x (filter p xs) y (kept p xs y more t)
]

pub passes : {A : Type 0} (p : A → Bool) (xs : List A) (y : A) → Contains (filter p xs) y → Contains xs y × (p y ≡ true)
passes p [] y c = absurd (in_none y c)
passes p (x ∷ xs) y c = elim (of_kept (p x) x (filter p xs) y c) [
  | inl here ↦ (subst (Contains (x ∷ xs)) here.0 (at_head x xs), ap p (sym here.0) ∙ here.1)
  | inr more ↦ let h = passes p xs y more in (at_tail x xs y h.0, h.1)
]
