-- Rows that grow by a number, and ascending lists of what is set.
use Rattle.std.proofs.Math.ListN.{get_or-append}
use Rattle.std.proofs.Common.{◌≡◌, ◌<◌, ◌≤◌, ◌+◌, ◌-◌, ℕ, zero, suc, Bool, true, false, List, [], ◌∷◌, ◌++◌, length, length-append, drop, drop-cons, add-one, append_assoc, map, get_or, slice_set, refl, sym, ap, ◌∙◌, subst, inl, inr, arith}
use Rattle.std.proofs.lemmas.List.{append-nil}
use Rattle.ca_reach.proofs.Searched.{rows_length}
use Rattle.std.specs.Prelude.{Contains, ◌⊎◌, ◌↔◌, AllPairs}
use Rattle.std.specs.Global.{Vec}
use Rattle.ca_tree.specs.declared.numbers.ItemId.{ItemId}
use Rattle.std.proofs.lemmas.List.{map-append}
use Rattle.std.specs.List.Sorted.{IsStrictlyIncreasing}
use Rattle.std.proofs.lemmas.List.Elements.{Contains-append_left, Contains-append_right, Contains-append_cases, All-weaker, All-contains_itself}
use Rattle.std.proofs.lemmas.List.Kept.{AllPairs-cons}
use Rattle.ca_reach.specs.Reach.{Table, row, rows_of, IsSet, Adds}
use Rattle.ca_reach.proofs.Spreading.{in_none, in_cons, in_one, at_head, at_tail}

-- one row is longer by a number
same_row : (t : Table) (n : ℕ) (r : List ℕ) → n < length t → row (slice_set t n r) n ≡ r
same_row [] n r lt = absurd (omega (arith, lt))
same_row (x ∷ t) zero r lt = refl
same_row (x ∷ t) (suc n) r lt = same_row t n r (omega (arith, lt))

other_row : (t : Table) (n k : ℕ) (r : List ℕ) → (row (slice_set t n r) k ≡ row t k) ⊎ (k ≡ n)
other_row [] n k r = inl refl
other_row (x ∷ t) zero zero r = inr refl
other_row (x ∷ t) zero (suc k) r = inl refl
other_row (x ∷ t) (suc n) zero r = inl refl
other_row (x ∷ t) (suc n) (suc k) r = elim (other_row t n k r) [ inl same ↦ inl same | inr here ↦ inr (ap suc here) ]

pub adds_one : (t t' : Table) (n m : ℕ) → n < length t → t' ≡ slice_set t n (row t n ++ m ∷ []) → Adds t t' n m
adds_one t t' n m lt is k x = (
  (λ c.
      let d : Contains (row (slice_set t n (row t n ++ m ∷ [])) k) x = subst (λ u. Contains (row u k) x) is c in
      elim (other_row t n k (row t n ++ m ∷ [])) [
        | inl same ↦ inl (subst (λ r. Contains r x) same d)
        | inr here ↦ elim (Contains-append_cases (row t n) (m ∷ []) x (subst (λ r. Contains r x) (ap (row (slice_set t n (row t n ++ m ∷ []))) here ∙ same_row t n (row t n ++ m ∷ []) lt) d)) [
          | inl before ↦ inl (subst (λ j. Contains (row t j) x) (sym here) before)
          | inr new ↦ inr (here, sym (in_one m x new), lt)
        ]
      ]),
  (λ e. subst (λ u. Contains (row u k) x) (sym is) (elim e [
    | inl before ↦ elim (other_row t n k (row t n ++ m ∷ [])) [
      | inl same ↦ subst (λ r. Contains r x) (sym same) before
      | inr here ↦ subst (λ r. Contains r x) (sym (ap (row (slice_set t n (row t n ++ m ∷ []))) here ∙ same_row t n (row t n ++ m ∷ []) lt)) (Contains-append_left (row t n) (m ∷ []) x (subst (λ j. Contains (row t j) x) here before))
    ]
    | inr (at, is', within) ↦ subst (λ r. Contains r x) (sym (ap (row (slice_set t n (row t n ++ m ∷ []))) at ∙ same_row t n (row t n ++ m ∷ []) lt)) (Contains-append_right (row t n) (m ∷ []) x (subst (Contains (m ∷ [])) (sym is') (at_head m [])))
  ])),
)

pub adds_none : (t : Table) (n m : ℕ) → length t ≤ n → Adds t t n m
adds_none t n m past k x = ((λ c. inl c), λ e. elim e [ inl before ↦ before | inr (at, is', within) ↦ absurd (omega (arith, past, within)) ])

drop_all : (flags : List Bool) (k : ℕ) → length flags ≤ k → drop k flags ≡ []
drop_all [] zero past = refl
drop_all [] (suc k) past = refl
drop_all (b ∷ flags) zero past = absurd (omega (arith, past))
drop_all (b ∷ flags) (suc k) past = drop_all flags k (omega (arith, past))

-- numbers of what is set
abbrev pub numbers_set : ℕ → List Bool → List ℕ
numbers_set n [] = []
numbers_set n (true ∷ bs) = n ∷ numbers_set (n + 1) bs
numbers_set n (false ∷ bs) = numbers_set (n + 1) bs

tail_set : (b : Bool) (bs : List Bool) (n x : ℕ) → (n + 1 ≤ x) × IsSet bs (x - (n + 1)) → (n ≤ x) × IsSet (b ∷ bs) (x - n)
tail_set b bs n x (le, is) = let e : x - n ≡ suc (x - (n + 1)) = omega (arith, le) in (omega (arith, le), subst (IsSet (b ∷ bs)) (sym e) is)

set_tail : (bs : List Bool) (b : Bool) (n x : ℕ) → (n ≤ x) × IsSet (b ∷ bs) (x - n) → ((n ≡ x) × (b ≡ true)) ⊎ ((n + 1 ≤ x) × IsSet bs (x - (n + 1)))
set_tail bs b n x (le, is) = at (x - n) refl is
  where
    at : (k : ℕ) → x - n ≡ k → IsSet (b ∷ bs) k → ((n ≡ x) × (b ≡ true)) ⊎ ((n + 1 ≤ x) × IsSet bs (x - (n + 1)))
    at zero e h = inl (omega (arith, le, e), cc)
    at (suc k) e h = let f : x - (n + 1) ≡ k = omega (arith, e) in inr (omega (arith, e), subst (IsSet bs) (sym f) h)

pub numbers_exact : (n : ℕ) (bs : List Bool) (x : ℕ) → Contains (numbers_set n bs) x ↔ ((n ≤ x) × IsSet bs (x - n))
numbers_exact n [] x = ((λ c. absurd (in_none x c)), λ h. absurd (none (x - n) h.1))
  where
    none : (k : ℕ) → IsSet [] k → ⊥
    none k h = cc
numbers_exact n (true ∷ bs) x = (
  (λ c. elim (in_cons n (numbers_set (n + 1) bs) x c) [
    | inl is ↦ let e : x - n ≡ 0 = omega (arith, is) in (omega (arith, is), subst (IsSet (true ∷ bs)) (sym e) refl)
    | inr more ↦ tail_set true bs n x ((numbers_exact (n + 1) bs x).0 more)
  ]),
  (λ h. elim (set_tail bs true n x h) [
    | inl here ↦ subst (Contains (n ∷ numbers_set (n + 1) bs)) here.0 (at_head n (numbers_set (n + 1) bs))
    | inr later ↦ at_tail n (numbers_set (n + 1) bs) x ((numbers_exact (n + 1) bs x).1 later)
  ]),
)
numbers_exact n (false ∷ bs) x = (
  (λ c. tail_set false bs n x ((numbers_exact (n + 1) bs x).0 c)),
  (λ h. elim (set_tail bs false n x h) [ inl here ↦ cc | inr later ↦ (numbers_exact (n + 1) bs x).1 later ]),
)

abbrev Below : ℕ → ℕ → Type 0
Below a b = a < b

numbers_up : (n : ℕ) (bs : List Bool) → AllPairs Below (numbers_set n bs)
numbers_up n [] = λ i j d lt within. absurd (let never : ⊥ = omega (arith, within) in never)
numbers_up n (true ∷ bs) =
    AllPairs-cons Below n (numbers_set (n + 1) bs) (All-weaker (Contains (numbers_set (n + 1) bs)) (Below n) (λ x c. let b = ((numbers_exact (n + 1) bs x).0 c).0 in omega (arith, b)) (numbers_set (n + 1) bs) (All-contains_itself (numbers_set (n + 1) bs))) (numbers_up (n + 1) bs)
numbers_up n (false ∷ bs) = numbers_up (n + 1) bs

pub numbers_ascend : (n : ℕ) (bs : List Bool) → IsStrictlyIncreasing (numbers_set n bs)
numbers_ascend n bs = λ k lt. numbers_up n bs k (k + 1) 0 (omega arith) lt

rows_set : (rows : List (Vec ℕ)) (n : ℕ) (w : Vec ℕ) → rows_of (slice_set rows n w) ≡ slice_set (rows_of rows) n w.items
rows_set [] n w = refl
rows_set (v ∷ rows) zero w = refl
rows_set (v ∷ rows) (suc n) w = ap (λ t. v.items ∷ t) (rows_set rows n w)

row_read : (rows : List (Vec ℕ)) (n : ℕ) (v : Vec ℕ) → n < length rows → v ≡ get_or rows n v → v.items ≡ row (rows_of rows) n
row_read [] n v lt read = absurd (omega (arith, lt))
row_read (u ∷ rows) zero v lt read = ap (λ (x : Vec ℕ). x.items) read
row_read (u ∷ rows) (suc n) v lt read = row_read rows n v (omega (arith, lt)) read

pub added_to : (rows : List (Vec ℕ)) (n m : ℕ) (v w : Vec ℕ) → n < length rows → v ≡ get_or rows n v → w.items ≡ v.items ++ m ∷ [] → Adds (rows_of rows) (rows_of (slice_set rows n w)) n m
added_to rows n m v w lt read is =
    adds_one (rows_of rows) (rows_of (slice_set rows n w)) n m (subst (λ k. n < k) (sym (rows_length rows)) lt) (rows_set rows n w ∙ ap (slice_set (rows_of rows) n) (is ∙ ap (λ r. r ++ m ∷ []) (row_read rows n v lt read)))

-- the end of the list
pub numbers_done : (flags : List Bool) (k n lowest : ℕ) (xs : List ℕ) → length flags ≤ k → xs ++ numbers_set n (drop k flags) ≡ numbers_set lowest flags → xs ≡ numbers_set lowest flags
numbers_done flags k n lowest xs past so = sym (append-nil xs) ∙ (ap (λ bs. xs ++ numbers_set n bs) (sym (drop_all flags k past)) ∙ so)

pub numbers_of : (flags : List Bool) (k n lowest : ℕ) (xs : List ℕ) → length flags ≤ k → xs ++ numbers_set n (drop k flags) ≡ numbers_set lowest flags → ((x : ℕ) → Contains xs x ↔ ((lowest ≤ x) × IsSet flags (x - lowest))) × IsStrictlyIncreasing xs
numbers_of flags k n lowest xs past so =
    let is : numbers_set lowest flags ≡ xs = sym (numbers_done flags k n lowest xs past so) in
    (subst (λ ys. (x : ℕ) → Contains ys x ↔ ((lowest ≤ x) × IsSet flags (x - lowest))) is (numbers_exact lowest flags), subst IsStrictlyIncreasing is (numbers_ascend lowest flags))

-- where the numbers end before the flags do
front_ascends : (xs ys : List ℕ) → IsStrictlyIncreasing (xs ++ ys) → IsStrictlyIncreasing xs
front_ascends xs ys up k lt =
    let whole : k + 1 < length (xs ++ ys) = simp length-append (omega (arith, lt)) in
    let first : k < length xs = omega (arith, lt) in
    let a = get_or-append xs ys 0 k first in
    let b = get_or-append xs ys 0 (k + 1) lt in
    let less = up k whole in
    omega (arith, a, b, less)

pub front_of : (flags : List Bool) (k n lowest : ℕ) (xs : List ℕ) → 4294967295 ≤ n → xs ++ numbers_set (n + 1) (drop (k + 1) flags) ≡ numbers_set lowest flags → ((x : ℕ) → x < 4294967296 → Contains xs x ↔ ((lowest ≤ x) × IsSet flags (x - lowest))) × IsStrictlyIncreasing xs
front_of flags k n lowest xs last so =
    let rest = numbers_set (n + 1) (drop (k + 1) flags) in (
      (λ x lt. (
        (λ c. (numbers_exact lowest flags x).0 (subst (λ ys. Contains ys x) so (Contains-append_left xs rest x c))),
        (λ h. elim (Contains-append_cases xs rest x (subst (λ ys. Contains ys x) (sym so) ((numbers_exact lowest flags x).1 h))) [
          | inl here ↦ here
          | inr above ↦ let b = ((numbers_exact (n + 1) (drop (k + 1) flags) x).0 above).0 in absurd (omega (arith, b, lt, last))
        ]),
      )),
      front_ascends xs rest (subst IsStrictlyIncreasing (sym so) (numbers_ascend lowest flags)),
    )

-- the flag at hand is looked at
flag_by_suc : (flags : List Bool) (k : ℕ) (d b : Bool) → k < length flags → get_or flags k d ≡ b → drop k flags ≡ b ∷ drop (suc k) flags
flag_by_suc [] k d b lt is = absurd (omega (arith, lt))
flag_by_suc (x ∷ flags) zero d b lt is = ap (λ y. y ∷ flags) is
flag_by_suc (x ∷ flags) (suc k) d b lt is = flag_by_suc flags k d b (omega (arith, lt)) is

next_flag : (flags : List Bool) (k : ℕ) (d b : Bool) → k < length flags → get_or flags k d ≡ b → drop k flags ≡ b ∷ drop (k + 1) flags
next_flag flags k d b lt is = let plus : suc k ≡ k + 1 = omega arith in subst (λ m. drop k flags ≡ b ∷ drop m flags) plus (flag_by_suc flags k d b lt is)

pub flag_set : (flags : List Bool) (k n : ℕ) (d : Bool) (xs ys : List ItemId) (all : List ℕ) → k < length flags → get_or flags k d ≡ true → ys ≡ xs ++ record { 0 = n } ∷ []
    → map (λ i. i.0) xs ++ numbers_set n (drop k flags) ≡ all → map (λ i. i.0) ys ++ numbers_set (n + 1) (drop (k + 1) flags) ≡ all
flag_set flags k n d xs ys all lt is more so =
    let rest = numbers_set (n + 1) (drop (k + 1) flags) in
    let mapped : map (λ (i : ItemId). i.0) ys ≡ map (λ (i : ItemId). i.0) xs ++ n ∷ [] = ap (map (λ (i : ItemId). i.0)) more ∙ map-append (λ (i : ItemId). i.0) xs (record { 0 = n } ∷ []) in
    let seen : numbers_set n (drop k flags) ≡ n ∷ rest = ap (numbers_set n) (next_flag flags k d true lt is) in
    ap (λ zs. zs ++ rest) mapped ∙ (append_assoc (map (λ (i : ItemId). i.0) xs) (n ∷ []) rest ∙ (ap (λ zs. map (λ (i : ItemId). i.0) xs ++ zs) (sym seen) ∙ so))

pub flag_unset : (flags : List Bool) (k n : ℕ) (d : Bool) (xs ys : List ItemId) (all : List ℕ) → k < length flags → get_or flags k d ≡ false → ys ≡ xs
    → map (λ i. i.0) xs ++ numbers_set n (drop k flags) ≡ all → map (λ i. i.0) ys ++ numbers_set (n + 1) (drop (k + 1) flags) ≡ all
flag_unset flags k n d xs ys all lt is same so =
    let seen : numbers_set n (drop k flags) ≡ numbers_set (n + 1) (drop (k + 1) flags) = ap (numbers_set n) (next_flag flags k d false lt is) in
    ap (λ (zs : List ItemId). map (λ (i : ItemId). i.0) zs ++ numbers_set (n + 1) (drop (k + 1) flags)) same ∙ (ap (λ zs. map (λ (i : ItemId). i.0) xs ++ zs) (sym seen) ∙ so)
