-- Rows that are filled thing by thing.
use Rattle.std.proofs.Common.{◌≡◌, ◌<◌, ◌≤◌, ◌+◌, ℕ, zero, suc, false, List, [], ◌∷◌, ◌++◌, length, map, take, get_or, replicate, refl, sym, ap, ◌∙◌, subst, inl, inr, arith}
use Rattle.std.specs.Prelude.{Contains, ◌↔◌, slice_get, Some}
use Rattle.std.proofs.lemmas.List.{length-replicate}
use Rattle.std.proofs.lemmas.List.Elements.{Contains-append_left, Contains-append_right, Contains-append_cases}
use Rattle.ca_reach.specs.Reach.{Table, row, Adds}
use Rattle.ca_model.proofs.Members.{in_none, in_one, in_cons, at_head, at_tail}
use Rattle.ca_tree.specs.declared.numbers.ItemId.{ItemId}
use Rattle.ca_flow.specs.declared.links.Link.{Link}
use Rattle.ca_callers.specs.Callers.{AddsAll, AnyOf}

pub one_added : (t t' : Table) (n m : ℕ) (P : ℕ → ℕ → Type 0) → Adds t t' n m → P n m → ((k x : ℕ) → P k x → (k ≡ n) × (x ≡ m)) → AddsAll t t' P
one_added t t' n m P adds has only k x = (
  (λ c. elim ((adds k x).0 c) [
    | inl before ↦ inl before
    | inr (at, is, lt) ↦ inr (subst (λ a. P a x) (sym at) (subst (P n) (sym is) has), subst (λ a. a < length t) (sym at) lt)
  ]),
  (λ e. (adds k x).1 (elim e [ inl before ↦ inl before | inr (h, lt) ↦ let is = only k x h in inr (is.0, is.1, subst (λ a. a < length t) is.0 lt) ])),
)

pub none_added : (t : Table) (P : ℕ → ℕ → Type 0) → ((k x : ℕ) → P k x → ⊥) → AddsAll t t P
none_added t P none k x = ((λ c. inl c), λ e. elim e [ inl before ↦ before | inr (h, lt) ↦ absurd (none k x h) ])

pub same_added : (t t' : Table) (P Q : ℕ → ℕ → Type 0) → ((k x : ℕ) → P k x ↔ Q k x) → AddsAll t t' P → AddsAll t t' Q
same_added t t' P Q same adds k x = (
  (λ c. elim ((adds k x).0 c) [ inl before ↦ inl before | inr (h, lt) ↦ inr ((same k x).0 h, lt) ]),
  (λ e. (adds k x).1 (elim e [ inl before ↦ inl before | inr (h, lt) ↦ inr ((same k x).1 h, lt) ])),
)

-- what a list is made of so far
pub taken : (A : Type 0) (xs : List A) (k : ℕ) (x : A) → k < length xs → x ≡ get_or xs k x → take (k + 1) xs ≡ take k xs ++ x ∷ []
taken A xs k x lt read = subst (λ n. take n xs ≡ take k xs ++ x ∷ []) (plus k) (by_suc xs k lt read)
  where
    plus : (k : ℕ) → suc k ≡ k + 1
    plus k = omega arith

    by_suc : (xs : List A) (k : ℕ) → k < length xs → x ≡ get_or xs k x → take (suc k) xs ≡ take k xs ++ x ∷ []
    by_suc [] k lt read = absurd (omega (arith, lt))
    by_suc (y ∷ xs) zero lt read = ap (λ z. z ∷ []) (sym read)
    by_suc (y ∷ xs) (suc k) lt read = ap (λ zs. y ∷ zs) (by_suc xs k (omega (arith, lt)) read)

pub take_all : (A : Type 0) (xs : List A) (k : ℕ) → length xs ≤ k → take k xs ≡ xs
take_all A [] zero past = refl
take_all A [] (suc k) past = refl
take_all A (x ∷ xs) zero past = absurd (omega (arith, past))
take_all A (x ∷ xs) (suc k) past = ap (λ ys. x ∷ ys) (take_all A xs k (omega (arith, past)))

module _ (A : Type 0) (P : A → ℕ → ℕ → Type 0) where
  pub each_none : (t : Table) → AddsAll t t (AnyOf A [] P)
  each_none t = none_added t (AnyOf A [] P) (λ k x h. in_none h.0 h.1)

  each_more : (xs : List A) (a : A) (t t' t'' : Table) → length t' ≡ length t → AddsAll t t' (AnyOf A xs P) → AddsAll t' t'' (P a) → AddsAll t t'' (AnyOf A (xs ++ a ∷ []) P)
  each_more xs a t t' t'' same before more k x = (
    (λ c. elim ((more k x).0 c) [
      | inl old ↦ elim ((before k x).0 old) [ inl first ↦ inl first | inr (h, lt) ↦ inr ((h.0, Contains-append_left xs (a ∷ []) h.0 h.1, h.2), lt) ]
      | inr (h, lt) ↦ inr ((a, Contains-append_right xs (a ∷ []) a (at_head a []), h), subst (λ n. k < n) same lt)
    ]),
    (λ e. (more k x).1 (elim e [
      | inl first ↦ inl ((before k x).1 (inl first))
      | inr (h, lt) ↦ elim (Contains-append_cases xs (a ∷ []) h.0 h.1) [
        | inl old ↦ inl ((before k x).1 (inr ((h.0, old, h.2), lt)))
        | inr new ↦ inr (subst (λ y. P y k x) (sym (in_one a h.0 new)) h.2, subst (λ n. k < n) (sym same) lt)
      ]
    ])),
  )

  -- a turn of a loop, and its end
  pub each_turn : (xs : List A) (k : ℕ) (a : A) (t t' t'' : Table) → k < length xs → a ≡ get_or xs k a → length t' ≡ length t → AddsAll t t' (AnyOf A (take k xs) P) → AddsAll t' t'' (P a) → AddsAll t t'' (AnyOf A (take (k + 1) xs) P)
  each_turn xs k a t t' t'' lt read same before more =
      subst (λ ys. AddsAll t t'' (AnyOf A ys P)) (sym (taken A xs k a lt read)) (each_more (take k xs) a t t' t'' same before more)

  pub each_all : (xs : List A) (k : ℕ) (t t' : Table) → length xs ≤ k → AddsAll t t' (AnyOf A (take k xs) P) → AddsAll t t' (AnyOf A xs P)
  each_all xs k t t' past adds = subst (λ ys. AddsAll t t' (AnyOf A ys P)) (take_all A xs k past) adds

-- rows without numbers
pub no_row : (k n m : ℕ) → Contains (row (replicate k []) n) m → ⊥
no_row zero n m c = in_none m c
no_row (suc k) zero m c = in_none m c
no_row (suc k) (suc n) m c = no_row k n m c

-- members of a list by the numbers of its items
pub numbered_member : (A : Type 0) (number : A → ℕ) (xs : List A) (n : ℕ) → Contains (map number xs) n ↔ ((x : A) × Contains xs x × (number x ≡ n))
numbered_member A number [] n = ((λ c. absurd (in_none n c)), λ h. absurd (in_none h.0 h.1))
numbered_member A number (y ∷ xs) n = (
  (λ c. elim (in_cons (number y) (map number xs) n c) [
    | inl is ↦ (y, at_head y xs, is)
    | inr more ↦ let h = (numbered_member A number xs n).0 more in (h.0, at_tail y xs h.0 h.1, h.2)
  ]),
  (λ h. elim (in_cons y xs h.0 h.1) [
    | inl is ↦ subst (Contains (number y ∷ map number xs)) (ap number is ∙ h.2) (at_head (number y) (map number xs))
    | inr more ↦ at_tail (number y) (map number xs) n ((numbered_member A number xs n).1 (h.0, more, h.2))
  ]),
)

pub long_rows : (t : Table) (size : ℕ) → t ≡ replicate size [] → length t ≡ size
long_rows t size is = ap length is ∙ length-replicate size []

-- what stands at a place
pub read_at : {A : Type 0} (xs : List A) (k : ℕ) → k < length xs → (x : A) × (slice_get xs k ≡ Some x) × (x ≡ get_or xs k x)
read_at [] k lt = absurd (omega (arith, lt))
read_at (x ∷ xs) zero lt = (x, refl, refl)
read_at (x ∷ xs) (suc k) lt = read_at xs k (omega (arith, lt))

pub read_or : {A : Type 0} (xs : List A) (k : ℕ) (d : A) → k < length xs → get_or xs k d ≡ get_or xs k (get_or xs k d)
read_or [] k d lt = absurd (omega (arith, lt))
read_or (x ∷ xs) zero d lt = refl
read_or (x ∷ xs) (suc k) d lt = read_or xs k d (omega (arith, lt))

abbrev pub no_link : Link
no_link = record { from = record { 0 = 0 }; to = record { 0 = 0 }; destroys = false }

abbrev pub no_item : ItemId
no_item = record { 0 = 0 }
