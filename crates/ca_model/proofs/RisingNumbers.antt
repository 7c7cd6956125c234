-- Lists whose numbers rise: as pairs, and up to the last.
use Rattle.std.proofs.Common.{◌≡◌, ◌≤◌, ◌<◌, ◌⊎◌, ℕ, zero, suc, ◌+◌, Bool, true, false, List, [], ◌∷◌, map, All, AllPairs, Some, None, refl, sym, ap, ◌∙◌, subst, inl, inr, arith}
use Rattle.std.specs.Prelude.{Contains, nat_lt, if◌then◌else◌}
use Rattle.std.specs.List.Sorted.{IsStrictlyIncreasing}
use Rattle.std.proofs.lemmas.Bool.{ltb-true, lt-ltb}
use Rattle.std.proofs.lemmas.List.Kept.{AllPairs-from_increasing, AllPairs-cons}
use Rattle.ca_tree.specs.declared.numbers.SiteId.{SiteId}
use Rattle.ca_model.specs.Fitting.{ascending_to}
use Rattle.ca_model.proofs.Law.{one_of}
use Rattle.ca_model.proofs.Members.{in_none, in_cons, at_head, at_tail}
use Rattle.ca_model.proofs.SameLists.{head_pairs, tail_pairs}
use Rattle.ca_model.proofs.PassedLists.{Rises}

module _ {K : Type 0} (key : K → ℕ) where
  in_map : (ks : List K) (j : K) → Contains ks j → Contains (map key ks) (key j)
  in_map [] j c = absurd (in_none j c)
  in_map (k ∷ ks) j c = elim (in_cons k ks j c) [
    | inl is ↦ subst (λ j. Contains (key k ∷ map key ks) (key j)) is (at_head (key k) (map key ks))
    | inr more ↦ at_tail (key k) (map key ks) (key j) (in_map ks j more)
  ]

  rising : (n : ℕ) (ks : List K) → AllPairs (λ a b. a < b) (map key ks) → ((k : K) → Contains ks k → n ≤ key k) → Rises key n ks
  rising n [] pairs each = tt
  rising n (k ∷ ks) pairs each = (
    each k (at_head k ks),
    rising (suc (key k)) ks (tail_pairs (λ a b. a < b) (key k) (map key ks) pairs)
        (λ j c. let more : key k < key j = head_pairs (λ a b. a < b) (key k) (map key ks) (key j) pairs (in_map ks j c) in omega arith),
  )

  pub rises_by : (n : ℕ) (ks : List K) → IsStrictlyIncreasing (map key ks) → ((k : K) → Contains ks k → n ≤ key k) → Rises key n ks
  rises_by n ks h each = rising n ks (AllPairs-from_increasing (map key ks) h) each

  all_above : (n m : ℕ) (ks : List K) → m < n → Rises key n ks → All (λ b. m < b) (map key ks)
  all_above n m [] lt h i d within = absurd (omega arith)
  all_above n m (k ∷ ks) lt h zero d within = let first = h.0 in omega arith
  all_above n m (k ∷ ks) lt h (suc i) d within = let first = h.0 in all_above (suc (key k)) m ks (omega arith) h.1 i d (omega arith)

  pairs : (n : ℕ) (ks : List K) → Rises key n ks → AllPairs (λ a b. a < b) (map key ks)
  pairs n [] h = λ i j d lt within. absurd (omega arith)
  pairs n (k ∷ ks) h = AllPairs-cons (λ a b. a < b) (key k) (map key ks) (all_above (suc (key k)) (key k) ks (omega arith) h.1) (pairs (suc (key k)) ks h.1)

  pub increasing : (n : ℕ) (ks : List K) → Rises key n ks → IsStrictlyIncreasing (map key ks)
  increasing n ks h k within = pairs n ks h k (k + 1) 0 (omega arith) within

-- ---- sites

abbrev pub site_number : SiteId → ℕ
site_number s = s.0

pub record RisesTo (n : ℕ) (ss : List SiteId) (m : ℕ) : Type 0 where
  pub rises : Rises site_number (suc n) ss
  pub within : n ≤ m
  pub each : (s : SiteId) → Contains ss s → s.0 ≤ m

first_rises : (b : Bool) (n m : ℕ) (s : SiteId) (ss : List SiteId) → nat_lt n s.0 ≡ b → (ascending_to s.0 ss ≡ Some m → RisesTo s.0 ss m) → (if b then ascending_to s.0 ss else None) ≡ Some m → RisesTo n (s ∷ ss) m
first_rises true n m s ss lt next h =
    let rest = next h in
    let above : n < s.0 = ltb-true n s.0 lt in
    let last = rest.within in
    record { rises = (omega arith, rest.rises); within = omega arith; each = λ t c. elim (in_cons s ss t c) [ inl is ↦ let same : s.0 ≡ t.0 = ap site_number is in omega arith | inr more ↦ rest.each t more ] }
first_rises false n m s ss lt next h = absurd cc

pub rises_to : (n : ℕ) (ss : List SiteId) (m : ℕ) → ascending_to n ss ≡ Some m → RisesTo n ss m
rises_to n [] m h = let same : n ≡ m = one_of n m h in record { rises = tt; within = omega arith; each = λ s c. absurd (in_none s c) }
rises_to n (s ∷ ss) m h = first_rises (nat_lt n s.0) n m s ss refl (rises_to s.0 ss m) h

-- the last one, if any
pub to_last : (n : ℕ) (ss : List SiteId) → Rises site_number (suc n) ss → (m : ℕ) × (ascending_to n ss ≡ Some m) × ((m ≡ n) ⊎ ((s : SiteId) × Contains ss s × (s.0 ≡ m)))
to_last n [] h = (n, refl, inl refl)
to_last n (s ∷ ss) h =
    let rest = to_last s.0 ss h.1 in
    let first = h.0 in
    let above : nat_lt n s.0 ≡ true = lt-ltb n s.0 (omega arith) in
    (rest.0, ap (λ (b : Bool). if b then ascending_to s.0 ss else None) above ∙ rest.1, inr (elim rest.2 [ inl is ↦ (s, at_head s ss, sym is) | inr (t, c, is) ↦ (t, at_tail s ss t c, is) ]))
