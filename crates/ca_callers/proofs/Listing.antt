-- Lists and flags that grow item by item.
use Rattle.std.proofs.Common.{◌≡◌, ◌<◌, ◌≤◌, ◌+◌, ◌-◌, ℕ, zero, suc, Bool, true, false, List, [], ◌∷◌, ◌++◌, length, map, take, get_or, sym, ap, ◌∙◌, subst, inl, inr, arith}
use Rattle.std.specs.Prelude.{Contains, ◌⊎◌, ◌↔◌, ◌==◌}
use Rattle.std.specs.Global.{Vec}
use Rattle.std.proofs.lemmas.Bool.Decides.{Decides-eqb}
use Rattle.std.proofs.lemmas.List.Elements.{Contains-append_left, Contains-append_right, Contains-append_cases}
use Rattle.ca_tree.specs.declared.numbers.ItemId.{ItemId}
use Rattle.ca_reach.specs.Reach.{Table, row, rows_of, IsSet, Reached}
use Rattle.ca_model.proofs.Members.{in_none, in_one, in_cons, at_head, at_tail}
use Rattle.ca_callers.specs.Callers.{InOneRow, IsClosed, Sets}
use Rattle.ca_callers.proofs.Rows.{taken, take_all}

abbrev pub numbers_of : List ItemId → List ℕ
numbers_of = map (λ i. i.0)

pub number_cases : (xs : List ItemId) (i : ItemId) (n : ℕ) → Contains (numbers_of (xs ++ i ∷ [])) n → Contains (numbers_of xs) n ⊎ (i.0 ≡ n)
number_cases [] i n c = elim (in_cons i.0 [] n c) [ inl is ↦ inr is | inr none ↦ absurd (in_none n none) ]
number_cases (x ∷ xs) i n c = elim (in_cons x.0 (numbers_of (xs ++ i ∷ [])) n c) [
  | inl is ↦ inl (subst (Contains (numbers_of (x ∷ xs))) is (at_head x.0 (numbers_of xs)))
  | inr more ↦ elim (number_cases xs i n more) [ inl old ↦ inl (at_tail x.0 (numbers_of xs) n old) | inr new ↦ inr new ]
]

pub number_old : (xs : List ItemId) (i : ItemId) (n : ℕ) → Contains (numbers_of xs) n → Contains (numbers_of (xs ++ i ∷ [])) n
number_old [] i n c = absurd (in_none n c)
number_old (x ∷ xs) i n c = elim (in_cons x.0 (numbers_of xs) n c) [
  | inl is ↦ subst (Contains (numbers_of (x ∷ xs ++ i ∷ []))) is (at_head x.0 (numbers_of (xs ++ i ∷ [])))
  | inr more ↦ at_tail x.0 (numbers_of (xs ++ i ∷ [])) n (number_old xs i n more)
]

pub number_new : (xs : List ItemId) (i : ItemId) → Contains (numbers_of (xs ++ i ∷ [])) i.0
number_new [] i = at_head i.0 []
number_new (x ∷ xs) i = at_tail x.0 (numbers_of (xs ++ i ∷ [])) i.0 (number_new xs i)

-- one flag more
put_more : (f f' f'' : List Bool) (xs : List ℕ) (n : ℕ) → length f' ≡ length f → Sets f f' (Contains xs) → ((m : ℕ) → IsSet f'' m ↔ (IsSet f' m ⊎ ((m ≡ n) × (n < length f')))) → Sets f f'' (Contains (xs ++ n ∷ []))
put_more f f' f'' xs n same sets more m = (
  (λ is. elim ((more m).0 is) [
    | inl old ↦ elim ((sets m).0 old) [ inl first ↦ inl first | inr (c, lt) ↦ inr (Contains-append_left xs (n ∷ []) m c, lt) ]
    | inr (e, lt) ↦ inr (subst (Contains (xs ++ n ∷ [])) (sym e) (Contains-append_right xs (n ∷ []) n (at_head n [])), omega (arith, e, lt, same))
  ]),
  (λ e. (more m).1 (elim e [
    | inl first ↦ inl ((sets m).1 (inl first))
    | inr (c, lt) ↦ elim (Contains-append_cases xs (n ∷ []) m c) [
      | inl old ↦ inl ((sets m).1 (inr (old, lt)))
      | inr new ↦ let is : n ≡ m = in_one n m new in inr (sym is, omega (arith, is, lt, same))
    ]
  ])),
)

pub put_turn : (f f' f'' : List Bool) (xs : List ℕ) (k n : ℕ) → k < length xs → n ≡ get_or xs k n → length f' ≡ length f → Sets f f' (Contains (take k xs)) → ((m : ℕ) → IsSet f'' m ↔ (IsSet f' m ⊎ ((m ≡ n) × (n < length f')))) → Sets f f'' (Contains (take (k + 1) xs))
put_turn f f' f'' xs k n lt read same sets more = subst (λ ys. Sets f f'' (Contains ys)) (sym (taken ℕ xs k n lt read)) (put_more f f' f'' (take k xs) n same sets more)

pub put_none : (f : List Bool) → Sets f f (Contains [])
put_none f m = ((λ is. inl is), λ e. elim e [ inl is ↦ is | inr (c, lt) ↦ absurd (in_none m c) ])

pub put_end : (f f' : List Bool) (xs : List ℕ) (k : ℕ) → length xs ≤ k → Sets f f' (Contains (take k xs)) → Sets f f' (Contains xs)
put_end f f' xs k past sets = subst (λ ys. Sets f f' (Contains ys)) (take_all ℕ xs k past) sets

-- one row more
abbrev pub AreInRows : Table → List ItemId → List ℕ → Type 0
AreInRows t xs ns = (m : ℕ) → Contains ns m ↔ InOneRow t (Contains (numbers_of xs)) m

row_more : (t : Table) (xs : List ItemId) (i : ItemId) (ns ms : List ℕ) → AreInRows t xs ns → ms ≡ ns ++ row t i.0 → AreInRows t (xs ++ i ∷ []) ms
row_more t xs i ns ms are is m = (
  (λ c. elim (Contains-append_cases ns (row t i.0) m (subst (λ l. Contains l m) is c)) [
    | inl old ↦ let h = (are m).0 old in (h.0, number_old xs i h.0 h.1, h.2)
    | inr new ↦ (i.0, number_new xs i, new)
  ]),
  (λ h. subst (λ l. Contains l m) (sym is) (elim (number_cases xs i h.0 h.1) [
    | inl old ↦ Contains-append_left ns (row t i.0) m ((are m).1 (h.0, old, h.2))
    | inr new ↦ Contains-append_right ns (row t i.0) m (subst (λ n. Contains (row t n) m) (sym new) h.2)
  ])),
)

pub row_turn : (t : Table) (xs : List ItemId) (k : ℕ) (i : ItemId) (ns ms : List ℕ) → k < length xs → i ≡ get_or xs k i → AreInRows t (take k xs) ns → ms ≡ ns ++ row t i.0 → AreInRows t (take (k + 1) xs) ms
row_turn t xs k i ns ms lt read are is = subst (λ ys. AreInRows t ys ms) (sym (taken ItemId xs k i lt read)) (row_more t (take k xs) i ns ms are is)

pub row_none : (t : Table) (ns : List ℕ) → ns ≡ [] → AreInRows t [] ns
row_none t ns is m = ((λ c. absurd (in_none m (subst (λ l. Contains l m) is c))), λ h. absurd (in_none h.0 h.1))

pub row_end : (t : Table) (xs : List ItemId) (k : ℕ) (ns : List ℕ) → length xs ≤ k → AreInRows t (take k xs) ns → AreInRows t xs ns
row_end t xs k ns past are = subst (λ ys. AreInRows t ys ns) (take_all ItemId xs k past) are

-- one item more from which one doesn't go up
abbrev pub AreClosed : Table → Bool → List ItemId → List ItemId → Type 0
AreClosed t last xs ys = (n : ℕ) → Contains (numbers_of ys) n ↔ (Contains (numbers_of xs) n × IsClosed t last n)

closed_more : (t : Table) (last : Bool) (xs : List ItemId) (i : ItemId) (ys zs : List ItemId) → AreClosed t last xs ys → (IsClosed t last i.0) × (zs ≡ ys ++ i ∷ []) → AreClosed t last (xs ++ i ∷ []) zs
closed_more t last xs i ys zs are (is, more) n = (
  (λ c. elim (number_cases ys i n (subst (λ l. Contains (numbers_of l) n) more c)) [
    | inl old ↦ let h = (are n).0 old in (number_old xs i n h.0, h.1)
    | inr new ↦ (subst (Contains (numbers_of (xs ++ i ∷ []))) new (number_new xs i), subst (IsClosed t last) new is)
  ]),
  (λ h. subst (λ l. Contains (numbers_of l) n) (sym more) (elim (number_cases xs i n h.0) [
    | inl old ↦ number_old ys i n ((are n).1 (old, h.1))
    | inr new ↦ subst (Contains (numbers_of (ys ++ i ∷ []))) new (number_new ys i)
  ])),
)

closed_same : (t : Table) (last : Bool) (xs : List ItemId) (i : ItemId) (ys zs : List ItemId) → AreClosed t last xs ys → (IsClosed t last i.0 → ⊥) × (zs ≡ ys) → AreClosed t last (xs ++ i ∷ []) zs
closed_same t last xs i ys zs are (no', same) n = (
  (λ c. let h = (are n).0 (subst (λ l. Contains (numbers_of l) n) same c) in (number_old xs i n h.0, h.1)),
  (λ h. subst (λ l. Contains (numbers_of l) n) (sym same) (elim (number_cases xs i n h.0) [
    | inl old ↦ (are n).1 (old, h.1)
    | inr new ↦ absurd (no' (subst (IsClosed t last) (sym new) h.1))
  ])),
)

pub closed_turn : (t : Table) (last : Bool) (xs : List ItemId) (k : ℕ) (i : ItemId) (ys zs : List ItemId) → k < length xs → i ≡ get_or xs k i → AreClosed t last (take k xs) ys
    → ((IsClosed t last i.0) × (zs ≡ ys ++ i ∷ [])) ⊎ ((IsClosed t last i.0 → ⊥) × (zs ≡ ys)) → AreClosed t last (take (k + 1) xs) zs
closed_turn t last xs k i ys zs lt read are e = subst (λ us. AreClosed t last us zs) (sym (taken ItemId xs k i lt read)) (elim e [
  | inl more ↦ closed_more t last (take k xs) i ys zs are more
  | inr same ↦ closed_same t last (take k xs) i ys zs are same
])

pub closed_none : (t : Table) (last : Bool) (ys : List ItemId) → ys ≡ [] → AreClosed t last [] ys
closed_none t last ys is n = ((λ c. absurd (in_none n (subst (λ l. Contains (numbers_of l) n) is c))), λ h. absurd (in_none n h.0))

pub closed_end : (t : Table) (last : Bool) (xs : List ItemId) (k : ℕ) (ys : List ItemId) → length xs ≤ k → AreClosed t last (take k xs) ys → AreClosed t last xs ys
closed_end t last xs k ys past are = subst (λ us. AreClosed t last us ys) (take_all ItemId xs k past) are

-- nothing is reached from no starts
pub none_reached : (t : Table) (starts : List ℕ) → length starts ≡ 0 → (n : ℕ) → Reached t starts n → ⊥
none_reached t starts none n (Reached.begins c lt) = let at : c.0 < length starts = c.1 in omega (arith, at, none)
none_reached t starts none n (Reached.goes {n = m} r c lt) = none_reached t starts none m r

pub none_listed : (t : Table) (starts : List ℕ) (xs : List ItemId) → length starts ≡ 0 → xs ≡ [] → (n : ℕ) → Contains (numbers_of xs) n ↔ Reached t starts n
none_listed t starts xs none is n = ((λ c. absurd (in_none n (subst (λ l. Contains (numbers_of l) n) is c))), λ r. absurd (none_reached t starts none n r))

-- flags as the list of the items whose numbers they have
abbrev pub IsListOf : List ItemId → List Bool → Type 0
IsListOf xs flags = (n : ℕ) → n < 4294967296 → Contains (numbers_of xs) n ↔ ((0 ≤ n) × IsSet flags (n - 0))

pub listed_at : (xs : List ItemId) (flags : List Bool) (n : ℕ) → IsListOf xs flags → n < 4294967296 → Contains (numbers_of xs) n ↔ IsSet flags n
listed_at xs flags n are fits =
    let same : n - 0 ≡ n = omega arith in
    let h = are n fits in
    ((λ c. subst (IsSet flags) same (h.0 c).1), λ is. h.1 (omega arith, subst (IsSet flags) (sym same) is))

pub flags_listed : (t : Table) (starts : List ℕ) (flags read : List Bool) (xs : List ItemId) → read ≡ flags → ((n : ℕ) → IsSet flags n ↔ Reached t starts n)
    → IsListOf xs read → (n : ℕ) → n < 4294967296 → Contains (numbers_of xs) n ↔ Reached t starts n
flags_listed t starts flags read xs same exact are n fits =
    let at = listed_at xs flags n (subst (IsListOf xs) same are) fits in
    ((λ c. (exact n).0 (at.0 c)), λ r. at.1 ((exact n).1 r))

row_within : (t : Table) (n m : ℕ) → Contains (row t n) m → n < length t
row_within [] n m c = absurd (in_none m c)
row_within (r ∷ t) zero m c = omega arith
row_within (r ∷ t) (suc n) m c = let h : n < length t = row_within t n m c in omega (arith, h)

-- what stands in the rows of a list that has the numbers of some kind among those that fit
pub rows_exact : (t : Table) (numbers : List ℕ) (At : ℕ → Type 0) (ns : List ℕ) → length t < 4294967296 → ((n : ℕ) → n < 4294967296 → Contains numbers n ↔ At n) → ((m : ℕ) → Contains ns m ↔ InOneRow t (Contains numbers) m)
    → (m : ℕ) → Contains ns m ↔ InOneRow t At m
rows_exact t numbers At ns small exact are m = (
  (λ c. let h = (are m).0 c in (h.0, (exact h.0 (fits h.0 h.2)).0 h.1, h.2)),
  (λ h. (are m).1 (h.0, (exact h.0 (fits h.0 h.2)).1 h.1, h.2)),
)
  where
    fits : (n : ℕ) → Contains (row t n) m → n < 4294967296
    fits n c = let lt : n < length t = row_within t n m c in omega (arith, lt, small)

pub empty_is : (n : ℕ) (b : Bool) → b ≡ (n == 0) → b ≡ true → n ≡ 0
empty_is n b is t = (Decides-eqb n 0).0 (sym is ∙ t)

-- flags that are set by lists are set by what these list
pub sets_same : (flags flags' : List Bool) (P Q : ℕ → Type 0) → ((m : ℕ) → P m ↔ Q m) → Sets flags flags' P → Sets flags flags' Q
sets_same flags flags' P Q same sets m = (
  (λ is. elim ((sets m).0 is) [ inl before ↦ inl before | inr (h, lt) ↦ inr ((same m).0 h, lt) ]),
  (λ e. (sets m).1 (elim e [ inl before ↦ inl before | inr (h, lt) ↦ inr ((same m).1 h, lt) ])),
)

pub sets_twice : (f f' f'' : List Bool) (P Q : ℕ → Type 0) → length f' ≡ length f → Sets f f' P → Sets f' f'' Q → Sets f f'' (λ m. P m ⊎ Q m)
sets_twice f f' f'' P Q same first second m = (
  (λ is. elim ((second m).0 is) [
    | inl before ↦ elim ((first m).0 before) [ inl old ↦ inl old | inr (h, lt) ↦ inr (inl h, lt) ]
    | inr (h, lt) ↦ inr (inr h, subst (λ n. m < n) same lt)
  ]),
  (λ e. (second m).1 (elim e [
    | inl old ↦ inl ((first m).1 (inl old))
    | inr (h, lt) ↦ elim h [ inl p ↦ inl ((first m).1 (inr (p, lt))) | inr q ↦ inr (q, subst (λ n. m < n) (sym same) lt) ]
  ])),
)

-- ---- one layer, where slices are read through references

module _ (t : Table) (items : List ItemId) (At : ℕ → Type 0) (exact : (n : ℕ) → n < 4294967296 → Contains (numbers_of items) n ↔ At n) (small : length t < 4294967296) where
  -- the rows of items
  pub rows_read : (vs vs' : List (Vec ℕ)) (read : List ItemId) (ns : List ℕ) → rows_of vs ≡ t → vs' ≡ vs → read ≡ items → ((m : ℕ) → Contains ns m ↔ InOneRow (rows_of vs') (Contains (numbers_of read)) m) → (m : ℕ) → Contains ns m ↔ InOneRow t At m
  rows_read vs vs' read ns is rows-is items-is are =
      rows_exact t (numbers_of items) At ns small exact
      (subst (λ (l : List ItemId). (m : ℕ) → Contains ns m ↔ InOneRow t (Contains (numbers_of l)) m) items-is (subst (λ u. (m : ℕ) → Contains ns m ↔ InOneRow u (Contains (numbers_of read)) m) (ap rows_of rows-is ∙ is) are))

  pub calls_read : (last : Bool) (vs vs' : List (Vec ℕ)) (read : List ItemId) (ns : List ℕ) → rows_of vs ≡ t → vs' ≡ vs → read ≡ items → ((m : ℕ) → Contains ns m ↔ ((last ≡ false) × InOneRow (rows_of vs') (Contains (numbers_of read)) m)) → (m : ℕ) → Contains ns m ↔ ((last ≡ false) × InOneRow t At m)
  calls_read last vs vs' read ns is rows-is items-is are m =
      let here = subst (λ (l : List ItemId). Contains ns m ↔ ((last ≡ false) × InOneRow t (Contains (numbers_of l)) m)) items-is (subst (λ u. Contains ns m ↔ ((last ≡ false) × InOneRow u (Contains (numbers_of read)) m)) (ap rows_of rows-is ∙ is) (are m)) in
      ((λ c. let h = here.0 c in (h.0, rows_into h.1)), λ h. here.1 (h.0, rows_back h.1))
    where
      fits : (n : ℕ) → Contains (row t n) m → n < 4294967296
      fits n c = let lt : n < length t = row_within t n m c in omega (arith, lt, small)

      rows_into : InOneRow t (Contains (numbers_of items)) m → InOneRow t At m
      rows_into h = (h.0, (exact h.0 (fits h.0 h.2)).0 h.1, h.2)

      rows_back : InOneRow t At m → InOneRow t (Contains (numbers_of items)) m
      rows_back h = (h.0, (exact h.0 (fits h.0 h.2)).1 h.1, h.2)

pub closed_exact : (above : Table) (last : Bool) (items read ends : List ItemId) (At : ℕ → Type 0) (vs' vs : List (Vec ℕ)) → ((n : ℕ) → n < 4294967296 → Contains (numbers_of items) n ↔ At n) → rows_of vs ≡ above → vs' ≡ vs → read ≡ items
    → ((n : ℕ) → Contains (numbers_of ends) n ↔ (Contains (numbers_of read) n × IsClosed (rows_of vs') last n)) → (n : ℕ) → n < 4294967296 → Contains (numbers_of ends) n ↔ (At n × IsClosed above last n)
closed_exact above last items read ends At vs' vs exact is rows-is items-is are n fits =
    let here = subst (λ (l : List ItemId). Contains (numbers_of ends) n ↔ (Contains (numbers_of l) n × IsClosed above last n)) items-is (subst (λ u. Contains (numbers_of ends) n ↔ (Contains (numbers_of read) n × IsClosed u last n)) (ap rows_of rows-is ∙ is) (are n)) in
    ((λ c. let h = here.0 c in ((exact n fits).0 h.0, h.1)), λ h. here.1 ((exact n fits).1 h.0, h.1))

pub reached_read : (vs vs' : List (Vec ℕ)) (starts : List ℕ) (items : List ItemId) → vs' ≡ vs → ((n : ℕ) → n < 4294967296 → Contains (numbers_of items) n ↔ Reached (rows_of vs') starts n) → (n : ℕ) → n < 4294967296 → Contains (numbers_of items) n ↔ Reached (rows_of vs) starts n
reached_read vs vs' starts items is exact = subst (λ us. (n : ℕ) → n < 4294967296 → Contains (numbers_of items) n ↔ Reached (rows_of us) starts n) is exact

-- flags that a list was put into
pub sets_read : (f f' : List Bool) (numbers read : List ℕ) (P : ℕ → Type 0) → read ≡ numbers → ((m : ℕ) → Contains numbers m ↔ P m) → Sets f f' (Contains read) → Sets f f' P
sets_read f f' numbers read P is same sets = sets_same f f' (Contains numbers) P same (subst (λ (ns : List ℕ). Sets f f' (Contains ns)) is sets)
