-- Flags that are set one after another.
use Rattle.std.proofs.Common.{◌≡◌, ◌+◌, ◌<◌, ℕ, zero, suc, Bool, true, false, List, [], ◌∷◌, ◌++◌, length, slice_set, get_or, take, refl, sym, ap, ◌∙◌, subst, inl, inr, arith}
use Rattle.std.specs.Prelude.{Contains, ◌⊎◌, Some}
use Rattle.std.proofs.lemmas.List.Elements.{Contains-append_left, Contains-append_right, Contains-append_cases}
use Rattle.std.proofs.lemmas.Option.{slice_get-get_or}
use Rattle.std.proofs.Math.Seq.{take-suc}
use Rattle.ca_reach.specs.Reach.{IsSet, unset, Spreads}

pub in_none : {A : Type 0} (y : A) → Contains [] y → ⊥
in_none y (k, lt, is) = omega (arith, lt)

pub in_cons : {A : Type 0} (x : A) (xs : List A) (y : A) → Contains (x ∷ xs) y → (x ≡ y) ⊎ Contains xs y
in_cons x xs y (zero, lt, is) = inl is
in_cons x xs y (suc k, lt, is) = inr (k, omega (arith, lt), is)

pub in_one : {A : Type 0} (x y : A) → Contains (x ∷ []) y → x ≡ y
in_one x y c = elim (in_cons x [] y c) [ inl is ↦ is | inr more ↦ absurd (in_none y more) ]

pub at_head : {A : Type 0} (x : A) (xs : List A) → Contains (x ∷ xs) x
at_head x xs = (0, omega arith, refl)

pub at_tail : {A : Type 0} (x : A) (xs : List A) (y : A) → Contains xs y → Contains (x ∷ xs) y
at_tail x xs y (k, lt, is) = (suc k, omega (arith, lt), is)

-- a flag is set: the others stay, and one fewer is unset
is_set : (flags : List Bool) (n : ℕ) → n < length flags → IsSet (slice_set flags n true) n
is_set [] n lt = absurd (omega (arith, lt))
is_set (b ∷ bs) zero lt = refl
is_set (b ∷ bs) (suc n) lt = is_set bs n (omega (arith, lt))

stays_set : (flags : List Bool) (n m : ℕ) → IsSet flags m → IsSet (slice_set flags n true) m
stays_set [] n m is = is
stays_set (b ∷ bs) zero zero is = refl
stays_set (b ∷ bs) zero (suc m) is = is
stays_set (b ∷ bs) (suc n) zero is = is
stays_set (b ∷ bs) (suc n) (suc m) is = stays_set bs n m is

was_set : (flags : List Bool) (n m : ℕ) → IsSet (slice_set flags n true) m → IsSet flags m ⊎ (n ≡ m)
was_set [] n m is = inl is
was_set (b ∷ bs) zero zero is = inr refl
was_set (b ∷ bs) zero (suc m) is = inl is
was_set (b ∷ bs) (suc n) zero is = inl is
was_set (b ∷ bs) (suc n) (suc m) is = elim (was_set bs n m is) [ inl before ↦ inl before | inr here ↦ inr (ap suc here) ]

one_fewer : (flags : List Bool) (n : ℕ) → n < length flags → get_or flags n true ≡ false → suc (unset (slice_set flags n true)) ≡ unset flags
one_fewer [] n lt is = omega (arith, lt)
one_fewer (true ∷ bs) zero lt is = cc
one_fewer (false ∷ bs) zero lt is = refl
one_fewer (true ∷ bs) (suc n) lt is = one_fewer bs n (omega (arith, lt)) is
one_fewer (false ∷ bs) (suc n) lt is = ap suc (one_fewer bs n (omega (arith, lt)) is)

as_many : (flags : List Bool) (n : ℕ) → length (slice_set flags n true) ≡ length flags
as_many [] n = refl
as_many (b ∷ bs) zero = refl
as_many (b ∷ bs) (suc n) = ap suc (as_many bs n)

length_one : (todo : List ℕ) (n : ℕ) → length (todo ++ n ∷ []) ≡ suc (length todo)
length_one [] n = refl
length_one (m ∷ todo) n = ap suc (length_one todo n)

pub sets_one : (flags : List Bool) (todo : List ℕ) (n : ℕ) → n < length flags → get_or flags n true ≡ false → Spreads flags todo (slice_set flags n true) (todo ++ n ∷ []) (n ∷ [])
sets_one flags todo n lt was = record {
  same_length = as_many flags n;
  kept = λ m is. stays_set flags n m is;
  has = λ m c within. subst (IsSet (slice_set flags n true)) (in_one n m c) (is_set flags n lt);
  only = λ m is. elim (was_set flags n m is) [
    | inl before ↦ inl before
    | inr here ↦ inr (subst (Contains (n ∷ [])) here (at_head n []), Contains-append_right todo (n ∷ []) m (subst (Contains (n ∷ [])) here (at_head n [])))
  ];
  todo_kept = λ m c. Contains-append_left todo (n ∷ []) m c;
  todo_only = λ m c. elim (Contains-append_cases todo (n ∷ []) m c) [ inl before ↦ inl before | inr here ↦ inr (subst (IsSet (slice_set flags n true)) (in_one n m here) (is_set flags n lt)) ];
  measure = let one = one_fewer flags n lt was in let more = length_one todo n in omega (arith, one, more);
}

pub sets_none : (flags : List Bool) (todo : List ℕ) (n : ℕ) → (n < length flags → IsSet flags n) → Spreads flags todo flags todo (n ∷ [])
sets_none flags todo n was = record {
  same_length = refl;
  kept = λ m is. is;
  has = λ m c within. subst (IsSet flags) (in_one n m c) (was (subst (λ k. k < length flags) (sym (in_one n m c)) within));
  only = λ m is. inl is;
  todo_kept = λ m c. c;
  todo_only = λ m c. inl c;
  measure = refl;
}

pub spreads_nothing : (flags : List Bool) (todo : List ℕ) → Spreads flags todo flags todo []
spreads_nothing flags todo = record {
  same_length = refl;
  kept = λ m is. is;
  has = λ m c within. absurd (in_none m c);
  only = λ m is. inl is;
  todo_kept = λ m c. c;
  todo_only = λ m c. inl c;
  measure = refl;
}

-- one after another
pub spreads_on : (f f' f'' : List Bool) (t t' t'' xs ys : List ℕ) → Spreads f t f' t' xs → Spreads f' t' f'' t'' ys → Spreads f t f'' t'' (xs ++ ys)
spreads_on f f' f'' t t' t'' xs ys p q = record {
  same_length = q.same_length ∙ p.same_length;
  kept = λ m is. q.kept m (p.kept m is);
  has = λ m c within. elim (Contains-append_cases xs ys m c) [
    | inl left ↦ q.kept m (p.has m left within)
    | inr right ↦ q.has m right (subst (λ k. m < k) (sym p.same_length) within)
  ];
  only = λ m is. elim (q.only m is) [
    | inl before ↦ elim (p.only m before) [
      | inl first ↦ inl first
      | inr new ↦ inr (Contains-append_left xs ys m new.0, q.todo_kept m new.1)
    ]
    | inr new ↦ inr (Contains-append_right xs ys m new.0, new.1)
  ];
  todo_kept = λ m c. q.todo_kept m (p.todo_kept m c);
  todo_only = λ m c. elim (q.todo_only m c) [
    | inl before ↦ elim (p.todo_only m before) [ inl first ↦ inl first | inr is ↦ inr (q.kept m is) ]
    | inr is ↦ inr is
  ];
  measure = q.measure ∙ p.measure;
}

plus_one : (k : ℕ) → k + 1 ≡ suc k
plus_one k = omega arith

taken : (xs : List ℕ) (k d x : ℕ) → k < length xs → x ≡ get_or xs k d → take (k + 1) xs ≡ take k xs ++ x ∷ []
taken xs k d x lt read = ap (λ n. take n xs) (plus_one k) ∙ (take-suc xs k d lt ∙ ap (λ y. take k xs ++ y ∷ []) (sym read))

-- an element that is read where it stands
pub read_set : (flags : List Bool) (n : ℕ) (b : Bool) → n < length flags → b ≡ get_or flags n b → b ≡ true → IsSet flags n
read_set flags n b lt read is = slice_get-get_or flags n b lt ∙ ap Some (sym read ∙ is)

pub read_unset : (flags : List Bool) (n : ℕ) (b : Bool) → n < length flags → b ≡ get_or flags n b → b ≡ false → get_or flags n true ≡ false
read_unset [] n b lt read is = absurd (omega (arith, lt))
read_unset (a ∷ flags) zero b lt read is = sym read ∙ is
read_unset (a ∷ flags) (suc n) b lt read is = read_unset flags n b (omega (arith, lt)) read is

pub next_taken : (f f' f'' : List Bool) (t t' t'' xs : List ℕ) (k d x : ℕ) → k < length xs → x ≡ get_or xs k d → Spreads f t f' t' (take k xs) → Spreads f' t' f'' t'' (x ∷ []) → Spreads f t f'' t'' (take (k + 1) xs)
next_taken f f' f'' t t' t'' xs k d x lt read p q =
    subst (λ ys. Spreads f t f'' t'' ys) (sym (taken xs k d x lt read)) (spreads_on f f' f'' t t' t'' (take k xs) (x ∷ []) p q)
