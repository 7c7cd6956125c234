-- The sites that are taken, number by number, and their items.
use Rattle.std.proofs.Common.{arith, ◌≡◌, ◌<◌, ◌≤◌, ◌+◌, ◌-◌, ℕ, zero, suc, Bool, List, [], ◌∷◌, ◌++◌, map, length, take, get_or, Option, None, refl, sym, ap, ◌∙◌, subst, inl, inr, true≢false}
use Rattle.std.specs.Prelude.{Contains, ◌↔◌, IsTrue}
use Rattle.std.specs.List.Sorted.{IsStrictlyIncreasing}
use Rattle.std.proofs.lemmas.Bool.{cases_lt}
use Rattle.std.proofs.lemmas.List.{take_more, length-append, get_or_append_left, get_or-append_right}
use Rattle.std.proofs.lemmas.List.Elements.{Contains-get_or, Contains-append_left, Contains-append_right, Contains-append_cases}
use Rattle.ca_tree.specs.declared.numbers.ItemId.{ItemId}
use Rattle.ca_tree.specs.declared.numbers.SiteId.{SiteId}
use Rattle.ca_model.specs.Codes.{Typed}
use Rattle.ca_model.specs.Accesses.{Site, all_sites}
use Rattle.ca_model.specs.Plans.{Options, IsSite, IsTaken}
use Rattle.ca_model.proofs.Members.{in_none, in_one, at_head}
use Rattle.ca_flow.proofs.LoweredSites.{number_of}
use Rattle.ca_flow.specs.declared.searches.Reason.{Reason}
use Rattle.ca_prune.specs.Pruning.{Tells}
use Rattle.ca_plan.specs.Planning.{site, AreTaken, IsItemOfOne, MayPush}

-- ---- ascending lists

ascends : (ys : List ℕ) (v : ℕ) → ((m : ℕ) → Contains ys m → m < v) → IsStrictlyIncreasing ys → IsStrictlyIncreasing (ys ++ v ∷ [])
ascends ys v below up k lt =
    let whole : length (ys ++ v ∷ []) ≡ length ys + 1 = length-append ys (v ∷ []) in
    let here : k < length ys = omega (arith, lt, whole) in
    let a : get_or (ys ++ v ∷ []) k 0 ≡ get_or ys k 0 = get_or_append_left ys (v ∷ []) 0 k here in
    elim (cases_lt (k + 1) (length ys)) [
      | inl less ↦
          let b : get_or (ys ++ v ∷ []) (k + 1) 0 ≡ get_or ys (k + 1) 0 = get_or_append_left ys (v ∷ []) 0 (k + 1) less in
          let rise : get_or ys k 0 < get_or ys (k + 1) 0 = up k less in
          omega (arith, a, b, rise)
      | inr more ↦
          let at : k + 1 ≡ length ys = omega (arith, more, here) in
          let none : k + 1 - length ys ≡ 0 = omega (arith, at) in
          let b : get_or (ys ++ v ∷ []) (k + 1) 0 ≡ v = get_or-append_right ys (v ∷ []) (length ys) (k + 1) 0 refl more ∙ ap (λ j. get_or (v ∷ []) j 0) none in
          let rise : get_or ys k 0 < v = below (get_or ys k 0) (Contains-get_or ys k 0 here) in
          omega (arith, a, b, rise)
    ]

abbrev numbers_of : List SiteId → List ℕ
numbers_of = map (λ s. s.0)

numbers_push : (xs : List SiteId) (n : SiteId) → numbers_of (xs ++ n ∷ []) ≡ numbers_of xs ++ n.0 ∷ []
numbers_push [] n = refl
numbers_push (x ∷ xs) n = ap (λ l. x.0 ∷ l) (numbers_push xs n)

number_from : (xs : List SiteId) (m : ℕ) → Contains (numbers_of xs) m → Contains xs (site m)
number_from [] m c = absurd (in_none m c)
number_from (x ∷ xs) m (zero, lt, is) = (0, omega arith, ap site is)
number_from (x ∷ xs) m (suc k, lt, is) =
    let rest = number_from xs m (k, omega (arith, lt), is) in
    (suc rest.0, let here : rest.0 < length xs = rest.1 in omega (arith, here), rest.2)

-- ---- number by number

module _ (p : Typed) (o : Options) where
  abbrev pub AreTakenTo : ℕ → List SiteId → Type 0
  AreTakenTo k sites = (n : SiteId) → Contains sites n ↔ ((n.0 ≤ k) × ((s : Site) × IsTaken p o s n))

  pub none_taken : AreTakenTo 0 []
  none_taken n = (
    (λ c. absurd (in_none n c)),
    (λ h. let low : 0 < n.0 = (number_of p h.1.0 n h.1.1.0).0 in let high : n.0 ≤ 0 = h.0 in absurd (omega (arith, low, high))),
  )

  last : (n : SiteId) (k : ℕ) → n.0 ≤ k + 1 → (k < n.0) → site (k + 1) ≡ n
  last n k high low = let same : k + 1 ≡ n.0 = omega (arith, high, low) in ap site same

  pub more_taken : (k : ℕ) (sites sites' : List SiteId) → AreTakenTo k sites → sites' ≡ sites ++ site (k + 1) ∷ [] → ((s : Site) × IsTaken p o s (site (k + 1))) → AreTakenTo (k + 1) sites'
  more_taken k sites sites' before is here n = subst (λ l. Contains l n ↔ ((n.0 ≤ k + 1) × ((s : Site) × IsTaken p o s n))) (sym is) (
    (λ c. elim (Contains-append_cases sites (site (k + 1) ∷ []) n c) [
      | inl old ↦ let h = (before n).0 old in (let low : n.0 ≤ k = h.0 in omega (arith, low), h.1)
      | inr new ↦
          let same : site (k + 1) ≡ n = in_one (site (k + 1)) n new in
          subst (λ n. (n.0 ≤ k + 1) × ((s : Site) × IsTaken p o s n)) same (omega arith, here)
    ]),
    (λ h. elim (cases_lt k n.0) [
      | inl less ↦ subst (Contains (sites ++ site (k + 1) ∷ [])) (last n k h.0 less) (Contains-append_right sites (site (k + 1) ∷ []) (site (k + 1)) (at_head (site (k + 1)) []))
      | inr more ↦ Contains-append_left sites (site (k + 1) ∷ []) n ((before n).1 (more, h.1))
    ]),
  )

  pub same_taken : (k : ℕ) (sites : List SiteId) → AreTakenTo k sites → (((s : Site) × IsTaken p o s (site (k + 1))) → ⊥) → AreTakenTo (k + 1) sites
  same_taken k sites before none n = (
    (λ c. let h = (before n).0 c in (let low : n.0 ≤ k = h.0 in omega (arith, low), h.1)),
    (λ h. elim (cases_lt k n.0) [
      | inl less ↦ absurd (none (subst (λ n. (s : Site) × IsTaken p o s n) (sym (last n k h.0 less)) h.1))
      | inr more ↦ (before n).1 (more, h.1)
    ]),
  )

  pub ascends_on : (k : ℕ) (sites sites' : List SiteId) → AreTakenTo k sites → sites' ≡ sites ++ site (k + 1) ∷ [] → IsStrictlyIncreasing (numbers_of sites) → IsStrictlyIncreasing (numbers_of sites')
  ascends_on k sites sites' before is up =
      subst IsStrictlyIncreasing (sym (ap numbers_of is ∙ numbers_push sites (site (k + 1))))
      (ascends (numbers_of sites) (k + 1) (λ m c. let low : m ≤ k = ((before (site m)).0 (number_from sites m c)).0 in omega (arith, low)) up)

  pub tells_at : (k : ℕ) (reasons : List (Option Reason)) (r : Option Reason) (b : Bool) → k < length reasons → r ≡ get_or reasons k r → ((s : Site) → IsSite p s (site (k + 1)) → Tells p o.depth s (get_or reasons k None))
      → ((s : Site) → IsSite p s (site (k + 1)) → Tells p o.depth s r → IsTrue b ↔ IsTaken p o s (site (k + 1))) → (s : Site) → IsSite p s (site (k + 1)) → IsTrue b ↔ IsTaken p o s (site (k + 1))
  tells_at k reasons r b lt read each told s is = told s is (subst (Tells p o.depth s) (reason_read reasons k lt read) (each s is))
    where
      reason_read : (rs : List (Option Reason)) (k : ℕ) → k < length rs → r ≡ get_or rs k r → get_or rs k None ≡ r
      reason_read [] k lt read = absurd (omega (arith, lt))
      reason_read (x ∷ rs) zero lt read = sym read
      reason_read (x ∷ rs) (suc k) lt read = reason_read rs k (omega (arith, lt)) read

  pub turn_taken : (k : ℕ) (sites sites' : List SiteId) (b : Bool) → AreTakenTo k sites → IsStrictlyIncreasing (numbers_of sites) → MayPush b sites sites' (site (k + 1)) → ((s : Site) × IsSite p s (site (k + 1)))
      → ((s : Site) → IsSite p s (site (k + 1)) → IsTrue b ↔ IsTaken p o s (site (k + 1))) → AreTakenTo (k + 1) sites' × IsStrictlyIncreasing (numbers_of sites')
  turn_taken k sites sites' b before up pushed there told = elim pushed [
    | inl (yes', is) ↦ (more_taken k sites sites' before is (there.0, (told there.0 there.1).0 yes'), ascends_on k sites sites' before is up)
    | inr (no', is) ↦ (
      subst (AreTakenTo (k + 1)) (sym is) (same_taken k sites before (λ h. true≢false (sym ((told h.0 h.1.0).1 h.1) ∙ no'))),
      subst (λ l. IsStrictlyIncreasing (numbers_of l)) (sym is) up,
    )
  ]

  pub all_taken : (k : ℕ) (sites : List SiteId) → length (all_sites p) ≤ k → AreTakenTo k sites → AreTaken p o sites
  all_taken k sites past before n = (
    (λ c. ((before n).0 c).1),
    (λ h. let high : n.0 ≤ length (all_sites p) = (number_of p h.0 n h.1.0).1 in (before n).1 (omega (arith, high, past), h)),
  )

pub none_ascend : (xs : List SiteId) → xs ≡ [] → IsStrictlyIncreasing (numbers_of xs)
none_ascend xs is = subst (λ l. IsStrictlyIncreasing (numbers_of l)) (sym is) (λ k lt. absurd (let never : ⊥ = omega (arith, lt) in never))

-- ---- items of sites

module _ (p : Typed) where
  abbrev pub AreItemsOf : List SiteId → List ItemId → Type 0
  AreItemsOf sites items = (i : ItemId) → Contains items i ↔ IsItemOfOne p sites i

  pub no_items : (items : List ItemId) → items ≡ [] → AreItemsOf [] items
  no_items items is i = ((λ c. absurd (in_none i (subst (λ l. Contains l i) is c))), λ h. absurd (in_none h.0 h.1))

  pub item_more : (sites : List SiteId) (k : ℕ) (items items' : List ItemId) (d n : SiteId) (j : ItemId) → k < length sites → get_or sites k d ≡ n → AreItemsOf (take k sites) items → items' ≡ items ++ j ∷ []
      → ((s : Site) × IsSite p s n) → ((s : Site) → IsSite p s n → s.item.id ≡ j) → AreItemsOf (take (k + 1) sites) items'
  item_more sites k items items' d n j lt read before is site' its i =
      subst (λ l. Contains l i ↔ IsItemOfOne p (take (k + 1) sites) i) (sym is) (subst (λ l. Contains (items ++ j ∷ []) i ↔ IsItemOfOne p l i) (sym more) both)
    where
      more : take (k + 1) sites ≡ take k sites ++ n ∷ []
      more = take_more sites k d lt ∙ ap (λ x. take k sites ++ x ∷ []) read

      both : Contains (items ++ j ∷ []) i ↔ IsItemOfOne p (take k sites ++ n ∷ []) i
      both = (
        (λ c. elim (Contains-append_cases items (j ∷ []) i c) [
          | inl old ↦ let h = (before i).0 old in (h.0, Contains-append_left (take k sites) (n ∷ []) h.0 h.1, h.2, h.3, h.4)
          | inr new ↦ (n, Contains-append_right (take k sites) (n ∷ []) n (at_head n []), site'.0, site'.1, its site'.0 site'.1 ∙ in_one j i new)
        ]),
        (λ h. elim (Contains-append_cases (take k sites) (n ∷ []) h.0 h.1) [
          | inl old ↦ Contains-append_left items (j ∷ []) i ((before i).1 (h.0, old, h.2, h.3, h.4))
          | inr new ↦
              let same : n ≡ h.0 = in_one n h.0 new in
              let its' : h.2.item.id ≡ j = its h.2 (subst (IsSite p h.2) (sym same) h.3) in
              subst (Contains (items ++ j ∷ [])) (sym its' ∙ h.4) (Contains-append_right items (j ∷ []) j (at_head j []))
        ]),
      )

  sites_end : (sites : List SiteId) (k : ℕ) → length sites ≤ k → take k sites ≡ sites
  sites_end [] zero past = refl
  sites_end [] (suc k) past = refl
  sites_end (x ∷ xs) zero past = absurd (omega (arith, past))
  sites_end (x ∷ xs) (suc k) past = ap (λ ys. x ∷ ys) (sites_end xs k (omega (arith, past)))

  pub all_items_of : (sites : List SiteId) (k : ℕ) (items : List ItemId) → length sites ≤ k → AreItemsOf (take k sites) items → AreItemsOf sites items
  all_items_of sites k items past before = subst (λ l. AreItemsOf l items) (sites_end sites k past) before
