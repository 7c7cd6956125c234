-- Tables that are filled link by link.
use Rattle.std.proofs.Common.{◌≡◌, ◌<◌, ◌≤◌, ◌+◌, ◌-◌, ℕ, zero, suc, Bool, true, false, not, List, [], ◌∷◌, ◌++◌, length, take, get_or, replicate, refl, sym, ap, ◌∙◌, subst, inl, inr, arith}
use Rattle.std.specs.Global.{Vec}
use Rattle.std.specs.Prelude.{Contains, ◌⊎◌, ◌↔◌}
use Rattle.std.proofs.lemmas.List.Elements.{Contains-append_left, Contains-append_right, Contains-append_cases}
use Rattle.ca_reach.specs.Reach.{Table, row, rows_of, IsSet, Adds}
use Rattle.ca_reach.proofs.Searched.{none_set, rows_length}
use Rattle.ca_model.proofs.Members.{in_none, in_one, at_head}
use Rattle.ca_flow.specs.declared.links.Link.{Link}
use Rattle.ca_region.specs.Regions.{IsLinked, IsBack, IsEnd}

pub taken : (xs : List Link) (k : ℕ) (x : Link) → k < length xs → x ≡ get_or xs k x → take (k + 1) xs ≡ take k xs ++ x ∷ []
taken xs k x lt read = subst (λ n. take n xs ≡ take k xs ++ x ∷ []) (plus k) (by_suc xs k lt read)
  where
    plus : (k : ℕ) → suc k ≡ k + 1
    plus k = omega arith

    by_suc : (xs : List Link) (k : ℕ) → k < length xs → x ≡ get_or xs k x → take (suc k) xs ≡ take k xs ++ x ∷ []
    by_suc [] k lt read = absurd (omega (arith, lt))
    by_suc (y ∷ xs) zero lt read = ap (λ z. z ∷ []) (sym read)
    by_suc (y ∷ xs) (suc k) lt read = ap (λ zs. y ∷ zs) (by_suc xs k (omega (arith, lt)) read)

module _ (lowest count : ℕ) where
  -- of one link more
  linked_before : (ls : List Link) (l : Link) (b : Bool) (m n : ℕ) → IsLinked lowest ls b m n → IsLinked lowest (ls ++ l ∷ []) b m n
  linked_before ls l b m n (k, c, d, to, from) = (k, Contains-append_left ls (l ∷ []) k c, d, to, from)

  linked_new : (ls : List Link) (l : Link) (b : Bool) → l.destroys ≡ b → IsLinked lowest (ls ++ l ∷ []) b (l.from.0 - lowest) (l.to.0 - lowest)
  linked_new ls l b is = (l, Contains-append_right ls (l ∷ []) l (at_head l []), is, refl, refl)

  linked_cases : (ls : List Link) (l : Link) (b : Bool) (m n : ℕ) → IsLinked lowest (ls ++ l ∷ []) b m n → IsLinked lowest ls b m n ⊎ ((l.destroys ≡ b) × (l.to.0 - lowest ≡ n) × (l.from.0 - lowest ≡ m))
  linked_cases ls l b m n (k, c, d, to, from) = elim (Contains-append_cases ls (l ∷ []) k c) [
    | inl before ↦ inl (k, before, d, to, from)
    | inr here ↦ let is : l ≡ k = in_one l k here in inr (ap (λ (x : Link). x.destroys) is ∙ d, ap (λ (x : Link). x.to.0 - lowest) is ∙ to, ap (λ (x : Link). x.from.0 - lowest) is ∙ from)
  ]

  -- the table of the links back of some links
  abbrev pub IsFilled : List Link → Table → Type 0
  IsFilled ls t = (n m : ℕ) → Contains (row t n) m ↔ ((n < count) × IsBack lowest ls n m)

  no_row : (k n m : ℕ) → Contains (row (replicate k []) n) m → ⊥
  no_row zero n m c = in_none m c
  no_row (suc k) zero m c = in_none m c
  no_row (suc k) (suc n) m c = no_row k n m c

  pub filled_none : (t : Table) → t ≡ replicate count [] → IsFilled [] t
  filled_none t is n m = ((λ c. absurd (no_row count n m (subst (λ u. Contains (row u n) m) is c))), λ h. absurd (in_none h.1.0 h.1.1))

  pub filled_more : (ls : List Link) (l : Link) (t t' : Table) → length t ≡ count → l.destroys ≡ false → IsFilled ls t → Adds t t' (l.to.0 - lowest) (l.from.0 - lowest) → IsFilled (ls ++ l ∷ []) t'
  filled_more ls l t t' long d filled adds n m = (
    (λ c. elim ((adds n m).0 c) [
      | inl before ↦ let h = (filled n m).0 before in (h.0, linked_before ls l false m n h.1)
      | inr (at, is, lt) ↦ (omega (arith, at, lt, long), subst (λ x. IsLinked lowest (ls ++ l ∷ []) false m x) (sym at) (subst (λ x. IsLinked lowest (ls ++ l ∷ []) false x (l.to.0 - lowest)) (sym is) (linked_new ls l false d)))
    ]),
    (λ h. (adds n m).1 (elim (linked_cases ls l false m n h.1) [
      | inl before ↦ inl ((filled n m).1 (h.0, before))
      | inr (d', to, from) ↦ inr (sym to, sym from, (let lt = h.0 in omega (arith, lt, to, long)))
    ])),
  )

  pub filled_same : (ls : List Link) (l : Link) (t : Table) → l.destroys ≡ true → IsFilled ls t → IsFilled (ls ++ l ∷ []) t
  filled_same ls l t d filled n m = (
    (λ c. let h = (filled n m).0 c in (h.0, linked_before ls l false m n h.1)),
    (λ h. elim (linked_cases ls l false m n h.1) [ inl before ↦ (filled n m).1 (h.0, before) | inr (d', to, from) ↦ cc ]),
  )

  -- the flags of the ends of some links
  module _ (At : ℕ → Type 0) where
    abbrev pub IsMarked : List Link → List Bool → Type 0
    IsMarked ls set = (m : ℕ) → IsSet set m ↔ ((m < count) × IsEnd lowest ls At m)

    pub marked_none : (set : List Bool) → set ≡ replicate count false → IsMarked [] set
    marked_none set is m = ((λ c. absurd (none_set count m (subst (λ u. IsSet u m) is c))), λ h. absurd (in_none h.1.2.0 h.1.2.1))

    pub marked_more : (ls : List Link) (l : Link) (set set' : List Bool) → length set ≡ count → (l.destroys ≡ true) × At (l.to.0 - lowest) → IsMarked ls set
        → ((m : ℕ) → IsSet set' m ↔ (IsSet set m ⊎ ((m ≡ l.from.0 - lowest) × (l.from.0 - lowest < length set)))) → IsMarked (ls ++ l ∷ []) set'
    marked_more ls l set set' long (d, at) marked sets m = (
      (λ c. elim ((sets m).0 c) [
        | inl before ↦ let h = (marked m).0 before in (h.0, (h.1.0, h.1.1, linked_before ls l true m h.1.0 h.1.2))
        | inr (here, lt) ↦ (omega (arith, here, lt, long), (l.to.0 - lowest, at, subst (λ x. IsLinked lowest (ls ++ l ∷ []) true x (l.to.0 - lowest)) (sym here) (linked_new ls l true d)))
      ]),
      (λ h. (sets m).1 (elim (linked_cases ls l true m h.1.0 h.1.2) [
        | inl before ↦ inl ((marked m).1 (h.0, (h.1.0, h.1.1, before)))
        | inr (d', to, from) ↦ inr (sym from, (let lt = h.0 in omega (arith, lt, from, long)))
      ])),
    )

    pub marked_same : (ls : List Link) (l : Link) (set : List Bool) → ((l.destroys ≡ true) × At (l.to.0 - lowest) → ⊥) → IsMarked ls set → IsMarked (ls ++ l ∷ []) set
    marked_same ls l set no' marked m = (
      (λ c. let h = (marked m).0 c in (h.0, (h.1.0, h.1.1, linked_before ls l true m h.1.0 h.1.2))),
      (λ h. elim (linked_cases ls l true m h.1.0 h.1.2) [
        | inl before ↦ (marked m).1 (h.0, (h.1.0, h.1.1, before))
        | inr (d', to, from) ↦ absurd (no' (d', subst At (sym to) h.1.1))
      ]),
    )

pub take_all : (xs : List Link) (k : ℕ) → length xs ≤ k → take k xs ≡ xs
take_all [] zero past = refl
take_all [] (suc k) past = refl
take_all (x ∷ xs) zero past = absurd (omega (arith, past))
take_all (x ∷ xs) (suc k) past = ap (λ ys. x ∷ ys) (take_all xs k (omega (arith, past)))

abbrev pub default : Link
default = record { from = record { 0 = 0 }; to = record { 0 = 0 }; destroys = false }

-- a turn of the loop
module _ (lowest count : ℕ) (links seen : List Link) (k : ℕ) (same : seen ≡ links) (lt : k < length seen) where
  abbrev pub the_link : Link
  the_link = get_or seen k default

  one_taken : take (k + 1) links ≡ take k links ++ the_link ∷ []
  one_taken = subst (λ ls. take (k + 1) ls ≡ take k ls ++ the_link ∷ []) same (taken seen k the_link lt (read seen k lt))
    where
      read : (xs : List Link) (k : ℕ) → k < length xs → get_or xs k default ≡ get_or xs k (get_or xs k default)
      read [] k lt = absurd (omega (arith, lt))
      read (x ∷ xs) zero lt = refl
      read (x ∷ xs) (suc k) lt = read xs k (omega (arith, lt))

  pub turn_adds : (v v' u : Vec (Vec ℕ)) (n m : ℕ) → the_link.destroys ≡ false → length (rows_of v.items) ≡ count → IsFilled lowest count (take k links) (rows_of v.items) → length v'.items ≡ length v.items → Adds (rows_of v.items) (rows_of v'.items) n m
      → n ≡ the_link.to.0 - lowest → m ≡ the_link.from.0 - lowest → u ≡ v' → (length (rows_of u.items) ≡ count) × IsFilled lowest count (take (k + 1) links) (rows_of u.items)
  turn_adds v v' u n m d long filled grown adds n-is m-is is =
      let more : Adds (rows_of v.items) (rows_of v'.items) (the_link.to.0 - lowest) (the_link.from.0 - lowest) = subst (λ x. Adds (rows_of v.items) (rows_of v'.items) (the_link.to.0 - lowest) x) m-is (subst (λ x. Adds (rows_of v.items) (rows_of v'.items) x m) n-is adds) in
      subst (λ (w : Vec (Vec ℕ)). (length (rows_of w.items) ≡ count) × IsFilled lowest count (take (k + 1) links) (rows_of w.items)) (sym is)
      (rows_length v'.items ∙ (grown ∙ (sym (rows_length v.items) ∙ long)), subst (λ ls. IsFilled lowest count ls (rows_of v'.items)) (sym one_taken) (filled_more lowest count (take k links) the_link (rows_of v.items) (rows_of v'.items) long d filled more))

  pub turn_keeps : (v u : Vec (Vec ℕ)) → the_link.destroys ≡ true → length (rows_of v.items) ≡ count → IsFilled lowest count (take k links) (rows_of v.items) → u ≡ v
      → (length (rows_of u.items) ≡ count) × IsFilled lowest count (take (k + 1) links) (rows_of u.items)
  turn_keeps v u d long filled is =
      subst (λ (w : Vec (Vec ℕ)). (length (rows_of w.items) ≡ count) × IsFilled lowest count (take (k + 1) links) (rows_of w.items)) (sym is)
      (long, subst (λ ls. IsFilled lowest count ls (rows_of v.items)) (sym one_taken) (filled_same lowest count (take k links) the_link (rows_of v.items) d filled))

  module _ (At : ℕ → Type 0) where
    pub turn_marks : (v v' u : Vec Bool) (n : ℕ) → (the_link.destroys ≡ true) × At (the_link.to.0 - lowest) → length v.items ≡ count → IsMarked lowest count At (take k links) v.items → length v'.items ≡ length v.items
        → ((m : ℕ) → IsSet v'.items m ↔ (IsSet v.items m ⊎ ((m ≡ n) × (n < length v.items)))) → n ≡ the_link.from.0 - lowest → u ≡ v' → (length u.items ≡ count) × IsMarked lowest count At (take (k + 1) links) u.items
    turn_marks v v' u n end long marked grown sets n-is is =
        subst (λ (w : Vec Bool). (length w.items ≡ count) × IsMarked lowest count At (take (k + 1) links) w.items) (sym is)
        (grown ∙ long, subst (λ ls. IsMarked lowest count At ls v'.items) (sym one_taken) (marked_more lowest count At (take k links) the_link v.items v'.items long end marked (subst (λ x. (m : ℕ) → IsSet v'.items m ↔ (IsSet v.items m ⊎ ((m ≡ x) × (x < length v.items)))) n-is sets)))

    pub turn_passes : (v u : Vec Bool) → ((the_link.destroys ≡ true) × At (the_link.to.0 - lowest) → ⊥) → length v.items ≡ count → IsMarked lowest count At (take k links) v.items → u ≡ v
        → (length u.items ≡ count) × IsMarked lowest count At (take (k + 1) links) u.items
    turn_passes v u no' long marked is =
        subst (λ (w : Vec Bool). (length w.items ≡ count) × IsMarked lowest count At (take (k + 1) links) w.items) (sym is)
        (long, subst (λ ls. IsMarked lowest count At ls v.items) (sym one_taken) (marked_same lowest count At (take k links) the_link v.items no' marked))

-- whether an item is gone over
pub passed : (b : Bool) → not b ≡ true → b ≡ false
passed true h = absurd cc
passed false h = refl

pub stopped : (b : Bool) → not b ≡ false → b ≡ true
stopped true h = refl
stopped false h = absurd cc
