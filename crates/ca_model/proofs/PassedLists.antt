-- A list of numbers from which each element of another list takes the first, where it has that number and may stand there: nothing is left where the numbers rise and are those of such elements.
use Rattle.std.proofs.Common.{◌≡◌, ◌≤◌, ℕ, suc, Bool, true, false, ◌&&◌, ◌==◌, List, [], ◌∷◌, ◌++◌, refl, true≢false, sym, ap, ◌∙◌, subst, inl, inr, arith}
use Rattle.std.specs.Prelude.{Contains, if◌then◌else◌}
use Rattle.std.proofs.lemmas.Bool.{and_parts, and_from, eqb-true, eq-eqb}
use Rattle.ca_model.specs.Fitting.{without}
use Rattle.ca_model.proofs.Members.{in_none, in_cons, at_head, at_tail}
use Rattle.ca_model.proofs.NumberedLists.{Ascends, no_more, one_more}

-- from n on, each number is greater than those before it
abbrev pub Rises : {K : Type 0} → (K → ℕ) → ℕ → List K → Type 0
Rises key n [] = Unit {0}
Rises key n (k ∷ ks) = (n ≤ key k) × Rises key (suc (key k)) ks

module _ {K : Type 0} (key : K → ℕ) where
  pub rises_from : (n m : ℕ) (ks : List K) → Rises key n ks → n ≡ m → Rises key m ks
  rises_from n m ks h is = subst (λ n. Rises key n ks) is h

  pub rises_sooner : (n m : ℕ) (ks : List K) → m ≤ n → Rises key n ks → Rises key m ks
  rises_sooner n m [] le h = tt
  rises_sooner n m (k ∷ ks) le h = let first = h.0 in (omega arith, h.1)

  pub each_above : (n : ℕ) (ks : List K) → Rises key n ks → (k : K) → Contains ks k → n ≤ key k
  each_above n [] h k c = absurd (in_none k c)
  each_above n (j ∷ ks) h k c = elim (in_cons j ks k c) [
    | inl is ↦ subst (λ j. n ≤ key j) is h.0
    | inr more ↦ let rest = each_above (suc (key j)) ks h.1 k more in let first = h.0 in omega arith
  ]

module _ {K X : Type 0} (key : K → ℕ) (number : X → ℕ) (test : X → Bool) where
  -- what is left behind some elements
  abbrev pub passed : List K → List X → List K
  passed ks [] = ks
  passed ks (x ∷ xs) = passed (without key (test x) (number x) ks) xs

  pub passed_append : (ks : List K) (xs ys : List X) → passed ks (xs ++ ys) ≡ passed (passed ks xs) ys
  passed_append ks [] ys = refl
  passed_append ks (x ∷ xs) ys = passed_append (without key (test x) (number x) ks) xs ys

  none_passed : (xs : List X) → passed [] xs ≡ []
  none_passed [] = refl
  none_passed (x ∷ xs) = none_passed xs

  -- an element that has this number and may stand there
  abbrev pub Finds : List X → K → Type 0
  Finds xs k = (x : X) × Contains xs x × (number x ≡ key k) × (test x ≡ true)

  abbrev FindsEach : List X → List K → Type 0
  FindsEach xs ks = (k : K) → Contains ks k → Finds xs k

  later : (x : X) (xs : List X) (k : K) → Finds xs k → Finds (x ∷ xs) k
  later x xs k (y, c, is, t) = (y, at_tail x xs y c, is, t)

  found_first : (x : X) (xs : List X) (n : ℕ) → number x ≡ n → ((ks : List K) → passed ks xs ≡ [] → Rises key (suc n) ks × FindsEach xs ks) → (k : K) (ks : List K) (b : Bool) → (test x && key k == number x) ≡ b
      → passed (if b then ks else k ∷ ks) xs ≡ [] → Rises key n (k ∷ ks) × FindsEach (x ∷ xs) (k ∷ ks)
  found_first x xs n is next k ks true tests none =
      let parts = and_parts (test x) (key k == number x) tests in
      let same : key k ≡ number x = eqb-true (key k) (number x) parts.1 in
      let rest = next ks none in (
        (omega arith, rises_from key (suc n) (suc (key k)) ks rest.0 (omega arith)),
        λ j c. elim (in_cons k ks j c) [
          | inl here ↦ subst (Finds (x ∷ xs)) here (x, at_head x xs, sym same, parts.0)
          | inr more ↦ later x xs j (rest.1 j more)
        ],
      )
  found_first x xs n is next k ks false tests none =
      let rest = next (k ∷ ks) none in
      (rises_sooner key (suc n) n (k ∷ ks) (omega arith) rest.0, λ j c. later x xs j (rest.1 j c))

  -- where nothing is left, the numbers rise and are those of such elements
  pub found : {n m : ℕ} {xs : List X} → Ascends number n xs m → (ks : List K) → passed ks xs ≡ [] → Rises key n ks × FindsEach xs ks
  found no_more [] none = (tt, λ k c. absurd (in_none k c))
  found no_more (k ∷ ks) none = absurd cc
  found (one_more is h) [] none = (tt, λ k c. absurd (in_none k c))
  found {n = n} (one_more {x = x} {xs = xs} is h) (k ∷ ks) none = found_first x xs n is (found h) k ks (test x && key k == number x) refl none

  -- and the other way round
  pub number_above : {n m : ℕ} {xs : List X} → Ascends number n xs m → (x : X) → Contains xs x → n ≤ number x
  number_above no_more x c = absurd (in_none x c)
  number_above {n = n} (one_more {x = y} {xs = xs} is h) x c = elim (in_cons y xs x c) [
    | inl here ↦ let same : number y ≡ number x = ap number here in omega arith
    | inr more ↦ let rest = number_above h x more in omega arith
  ]

  -- one that isn't found at the first is found behind it
  found_behind : (x : X) (xs : List X) (k : K) → Finds (x ∷ xs) k → (number x ≡ key k → test x ≡ true → ⊥) → Finds xs k
  found_behind x xs k (y, c, is, t) other = elim (in_cons x xs y c) [
    | inl here ↦ absurd (other (ap number here ∙ is) (ap test here ∙ t))
    | inr more ↦ (y, more, is, t)
  ]

  pass_first : (x : X) (xs : List X) (n : ℕ) → number x ≡ n → ((y : X) → Contains xs y → suc n ≤ number y) → ((ks : List K) → Rises key (suc n) ks → FindsEach xs ks → passed ks xs ≡ []) → (k : K) (ks : List K) → n ≤ key k
      → Rises key (suc (key k)) ks → FindsEach (x ∷ xs) (k ∷ ks) → (b : Bool) → (test x && key k == number x) ≡ b → passed (if b then ks else k ∷ ks) xs ≡ []
  pass_first x xs n is above next k ks le rises each true tests =
      let same : key k ≡ number x = eqb-true (key k) (number x) (and_parts (test x) (key k == number x) tests).1 in
      next ks (rises_from key (suc (key k)) (suc n) ks rises (omega arith))
      (λ j c. found_behind x xs j (each j (at_tail k ks j c)) (λ e t. let over = each_above key (suc (key k)) ks rises j c in omega arith))
  pass_first x xs n is above next k ks le rises each false tests =
      let here : Finds xs k = found_behind x xs k (each k (at_head k ks)) (λ e t. both (test x) (key k == number x) t (eq-eqb (key k) (number x) (sym e)) tests) in
      let over : suc n ≤ key k = let a = above here.0 here.1 in let b = here.2 in omega arith in
      next (k ∷ ks) (over, rises)
      (λ j c. elim (in_cons k ks j c) [
        | inl first ↦ subst (Finds xs) first here
        | inr more ↦ found_behind x xs j (each j c) (λ e t. let after = each_above key (suc (key k)) ks rises j more in omega arith)
      ])
    where
      both : (a b : Bool) → a ≡ true → b ≡ true → (a && b) ≡ false → ⊥
      both a b p q r = true≢false (sym (and_from a b p q) ∙ r)

  pub all_pass : {n m : ℕ} {xs : List X} → Ascends number n xs m → (ks : List K) → Rises key n ks → FindsEach xs ks → passed ks xs ≡ []
  all_pass no_more [] rises each = refl
  all_pass no_more (k ∷ ks) rises each = absurd (in_none (each k (at_head k ks)).0 (each k (at_head k ks)).1)
  all_pass (one_more {x = x} {xs = xs} is h) [] rises each = none_passed xs
  all_pass {n = n} (one_more {x = x} {xs = xs} is h) (k ∷ ks) rises each = pass_first x xs n is (number_above h) (all_pass h) k ks rises.0 rises.1 each (test x && key k == number x) refl
