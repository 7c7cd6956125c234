-- Rows and lists that grow, one thing after another.
use Rattle.std.proofs.Common.{◌≡◌, ◌<◌, ◌≤◌, ◌+◌, ℕ, zero, suc, Bool, true, false, not, List, [], ◌∷◌, ◌++◌, length, take, get_or, refl, sym, ap, ◌∙◌, subst, inl, inr, arith}
use Rattle.std.specs.Prelude.{Contains, ◌⊎◌, ◌↔◌}
use Rattle.std.proofs.lemmas.List.Elements.{Contains-append_left, Contains-append_right, Contains-append_cases}
use Rattle.std.proofs.lemmas.Bool.{cases_lt}
use Rattle.ca_reach.specs.Reach.{Table, row, IsSet, Adds}
use Rattle.ca_model.proofs.Members.{in_one, at_head}
use Rattle.ca_flow.specs.declared.links.Link.{Link}
use Rattle.ca_ahead.specs.Onward.{IsOnward, Grows, Gains, FollowsMarked}

-- ---- lists as they are read

pub taken : {A : Type 0} (xs : List A) (k : ℕ) (x : A) → k < length xs → x ≡ get_or xs k x → take (k + 1) xs ≡ take k xs ++ x ∷ []
taken xs k x lt read = subst (λ n. take n xs ≡ take k xs ++ x ∷ []) (plus k) (by_suc xs k x lt read)
  where
    plus : (k : ℕ) → suc k ≡ k + 1
    plus k = omega arith

    by_suc : {A : Type 0} (xs : List A) (k : ℕ) (x : A) → k < length xs → x ≡ get_or xs k x → take (suc k) xs ≡ take k xs ++ x ∷ []
    by_suc [] k x lt read = absurd (omega (arith, lt))
    by_suc (y ∷ xs) zero x lt read = ap (λ z. z ∷ []) (sym read)
    by_suc (y ∷ xs) (suc k) x lt read = ap (λ zs. y ∷ zs) (by_suc xs k x (omega (arith, lt)) read)

pub take_all : {A : Type 0} (xs : List A) (k : ℕ) → length xs ≤ k → take k xs ≡ xs
take_all [] zero past = refl
take_all [] (suc k) past = refl
take_all (x ∷ xs) zero past = absurd (omega (arith, past))
take_all (x ∷ xs) (suc k) past = ap (λ ys. x ∷ ys) (take_all xs k (omega (arith, past)))

pub read_at : {A : Type 0} (xs : List A) (k : ℕ) (d : A) → k < length xs → get_or xs k d ≡ get_or xs k (get_or xs k d)
read_at [] k d lt = absurd (omega (arith, lt))
read_at (x ∷ xs) zero d lt = refl
read_at (x ∷ xs) (suc k) d lt = read_at xs k d (omega (arith, lt))

-- one of some things, and of one more
abbrev pub OneOf : {A : Type 0} → (A → Type 0) → List A → Type 0
OneOf {A} P xs = (x : A) × Contains xs x × P x

pub one_more : {A : Type 0} (P : A → Type 0) (xs : List A) (x : A) → OneOf P (xs ++ x ∷ []) ↔ (OneOf P xs ⊎ P x)
one_more P xs x = (
  (λ h. elim (Contains-append_cases xs (x ∷ []) h.0 h.1) [ inl before ↦ inl (h.0, before, h.2) | inr here ↦ inr (subst P (sym (in_one x h.0 here)) h.2) ]),
  (λ e. elim e [ inl h ↦ (h.0, Contains-append_left xs (x ∷ []) h.0 h.1, h.2) | inr is ↦ (x, Contains-append_right xs (x ∷ []) x (at_head x []), is) ]),
)

pub next_one : {A : Type 0} (P : A → Type 0) (xs : List A) (k : ℕ) (x : A) → k < length xs → x ≡ get_or xs k x → OneOf P (take (k + 1) xs) ↔ (OneOf P (take k xs) ⊎ P x)
next_one P xs k x lt read = subst (λ ys. OneOf P ys ↔ (OneOf P (take k xs) ⊎ P x)) (sym (taken xs k x lt read)) (one_more P (take k xs) x)

-- ---- rows

pub grows_on : (t t' t'' : Table) (P Q R : ℕ → ℕ → Type 0) → Grows t t' P → Grows t' t'' Q → ((n m : ℕ) → R n m ↔ (P n m ⊎ Q n m)) → Grows t t'' R
grows_on t t' t'' P Q R g h both = (
  h.0 ∙ g.0,
  λ n m. (
    (λ c. elim ((h.1 n m).0 c) [
      | inl before ↦ elim ((g.1 n m).0 before) [ inl first ↦ inl first | inr (lt, is) ↦ inr (lt, (both n m).1 (inl is)) ]
      | inr (lt, is) ↦ inr (subst (λ k. n < k) g.0 lt, (both n m).1 (inr is))
    ]),
    (λ e. elim e [
      | inl first ↦ (h.1 n m).1 (inl ((g.1 n m).1 (inl first)))
      | inr (lt, is) ↦ elim ((both n m).0 is) [
        | inl p ↦ (h.1 n m).1 (inl ((g.1 n m).1 (inr (lt, p))))
        | inr q ↦ (h.1 n m).1 (inr (subst (λ k. n < k) (sym g.0) lt, q))
      ]
    ]),
  ),
)

-- one more of some things is added
pub grows_next : {A : Type 0} (P : A → ℕ → ℕ → Type 0) (xs : List A) (k : ℕ) (x : A) (t t' t'' : Table) → k < length xs → x ≡ get_or xs k x
    → Grows t t' (λ n m. OneOf (λ y. P y n m) (take k xs)) → Grows t' t'' (P x) → Grows t t'' (λ n m. OneOf (λ y. P y n m) (take (k + 1) xs))
grows_next P xs k x t t' t'' lt read g h = grows_on t t' t'' (λ n m. OneOf (λ y. P y n m) (take k xs)) (P x) (λ n m. OneOf (λ y. P y n m) (take (k + 1) xs)) g h (λ n m. next_one (λ y. P y n m) xs k x lt read)

pub grows_all : {A : Type 0} (P : A → ℕ → ℕ → Type 0) (xs : List A) (k : ℕ) (t t' : Table) → length xs ≤ k → Grows t t' (λ n m. OneOf (λ y. P y n m) (take k xs)) → Grows t t' (λ n m. OneOf (λ y. P y n m) xs)
grows_all P xs k t t' past = subst (λ ys. Grows t t' (λ n m. OneOf (λ y. P y n m) ys)) (take_all xs k past)

-- a link is added
pub grows_link : (t t' : Table) (l : Link) → length t' ≡ length t → l.destroys ≡ false → Adds t t' l.from.0 l.to.0 → Grows t t' (IsOnward l)
grows_link t t' l long d adds = (
  long,
  λ n m. (
    (λ c. elim ((adds n m).0 c) [ inl before ↦ inl before | inr (at, is, lt) ↦ inr (subst (λ k. k < length t) (sym at) lt, (d, sym at, sym is)) ]),
    (λ e. (adds n m).1 (elim e [ inl before ↦ inl before | inr (lt, (d', from, to)) ↦ inr (sym from, sym to, subst (λ k. k < length t) (sym from) lt) ])),
  ),
)

pub passed : (b : Bool) → not b ≡ true → b ≡ false
passed true h = absurd cc
passed false h = refl

-- ---- numbers

pub gains_on : (xs ys zs : List ℕ) (P Q R : ℕ → Type 0) → Gains xs ys P → Gains ys zs Q → ((n : ℕ) → R n ↔ (P n ⊎ Q n)) → Gains xs zs R
gains_on xs ys zs P Q R g h both n = (
  (λ c. elim ((h n).0 c) [
    | inl before ↦ elim ((g n).0 before) [ inl first ↦ inl first | inr is ↦ inr ((both n).1 (inl is)) ]
    | inr is ↦ inr ((both n).1 (inr is))
  ]),
  (λ e. elim e [
    | inl first ↦ (h n).1 (inl ((g n).1 (inl first)))
    | inr is ↦ elim ((both n).0 is) [ inl p ↦ (h n).1 (inl ((g n).1 (inr p))) | inr q ↦ (h n).1 (inr q) ]
  ]),
)

pub gains_all : (xs ys zs : List ℕ) (P : ℕ → Type 0) → zs ≡ xs ++ ys → ((n : ℕ) → P n ↔ Contains ys n) → Gains xs zs P
gains_all xs ys zs P is each n = (
  (λ c. elim (Contains-append_cases xs ys n (subst (λ l. Contains l n) is c)) [ inl left ↦ inl left | inr right ↦ inr ((each n).1 right) ]),
  (λ e. subst (λ l. Contains l n) (sym is) (elim e [ inl left ↦ Contains-append_left xs ys n left | inr right ↦ Contains-append_right xs ys n ((each n).0 right) ])),
)

pub gains_next : {A : Type 0} (P : A → ℕ → Type 0) (xs : List A) (k : ℕ) (x : A) (ns ns' ns'' : List ℕ) → k < length xs → x ≡ get_or xs k x
    → Gains ns ns' (λ n. OneOf (λ y. P y n) (take k xs)) → Gains ns' ns'' (P x) → Gains ns ns'' (λ n. OneOf (λ y. P y n) (take (k + 1) xs))
gains_next P xs k x ns ns' ns'' lt read g h = gains_on ns ns' ns'' (λ n. OneOf (λ y. P y n) (take k xs)) (P x) (λ n. OneOf (λ y. P y n) (take (k + 1) xs)) g h (λ n. next_one (λ y. P y n) xs k x lt read)

pub gains_every : {A : Type 0} (P : A → ℕ → Type 0) (xs : List A) (k : ℕ) (ns ns' : List ℕ) → length xs ≤ k → Gains ns ns' (λ n. OneOf (λ y. P y n) (take k xs)) → Gains ns ns' (λ n. OneOf (λ y. P y n) xs)
gains_every P xs k ns ns' past = subst (λ ys. Gains ns ns' (λ n. OneOf (λ y. P y n) ys)) (take_all xs k past)

-- what is behind marked numbers, up to some number
pub follow_more : (t : Table) (marked : List Bool) (k : ℕ) (xs ys : List ℕ) → ((m : ℕ) → Contains xs m ↔ FollowsMarked t marked k m) → Gains xs ys (λ m. IsSet marked k × Contains (row t k) m)
    → (m : ℕ) → Contains ys m ↔ FollowsMarked t marked (k + 1) m
follow_more t marked k xs ys before more m = (
  (λ c. elim ((more m).0 c) [
    | inl old ↦ let (n, lt, set, leads) = (before m).0 old in (n, omega (arith, lt), set, leads)
    | inr new ↦ (k, omega arith, new.0, new.1)
  ]),
  (λ h.
      let (n, lt, set, leads) = h in
      (more m).1 (elim (cases_lt n k) [
        | inl less ↦ inl ((before m).1 (n, less, set, leads))
        | inr most ↦ let same : n ≡ k = omega (arith, most, lt) in inr (subst (IsSet marked) same set, subst (λ j. Contains (row t j) m) same leads)
      ])),
)
