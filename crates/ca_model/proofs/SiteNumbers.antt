-- The numbers of an item's sites are their places in the list of sites.
use Rattle.std.proofs.Common.{arith, ◌≡◌, ℕ, zero, suc, ◌+◌, ◌-◌, ◌<◌, true, false, List, [], ◌∷◌, ◌++◌, length, Some, refl, sym, ap, ◌∙◌, inl, inr}
use Rattle.std.specs.Prelude.{◌==◌, Contains, cond, slice_get}
use Rattle.std.proofs.lemmas.Bool.{eq-eqb, ne_eqb}
use Rattle.ca_tree.specs.declared.numbers.ItemId.{ItemId}
use Rattle.ca_model.specs.declared.tree.Item.{Item}
use Rattle.ca_model.specs.Codes.{Typed}
use Rattle.ca_model.specs.Sites.{all_items, act_sites, first_from}
use Rattle.ca_model.specs.Accesses.{Kind, Access, At_site, Named_load, Named_store, Allocates, Site, kinds, act_accesses, sites_after, sites_in, all_sites, numbered}
use Rattle.ca_model.specs.Numbering.{SitesHaveTheirNumbers}
use Rattle.ca_model.specs.WellFormed.{IsWellFormed}
use Rattle.ca_model.proofs.Law.{one_of}
use Rattle.ca_model.proofs.Steps.{get_left}
use Rattle.ca_model.proofs.Composition.{get_right}
use Rattle.ca_model.proofs.Members.{in_none, in_cons}
use Rattle.ca_model.proofs.Numbers.{act_count}
use Rattle.ca_model.proofs.ApartItems.{AreApart, numbered_apart}

-- the sites of one item
pub count_after : (i : Item) (done more : List Access) → length (sites_after i done more) ≡ length (kinds more)
count_after i done [] = refl
count_after i done (At_site k ∷ more) = ap suc (count_after i (done ++ (At_site k ∷ [])) more)
count_after i done (Named_load ∷ more) = count_after i (done ++ (Named_load ∷ [])) more
count_after i done (Named_store ∷ more) = count_after i (done ++ (Named_store ∷ [])) more
count_after i done (Allocates ∷ more) = count_after i (done ++ (Allocates ∷ [])) more

-- a site of an item, of a kind, at a place
abbrev StandsAt : List Site → ℕ → Item → Kind → Type 0
StandsAt ss q i k = (s : Site) × (slice_get ss q ≡ Some s) × (s.item ≡ i) × (s.kind ≡ k)

site_after : (i : Item) (done more : List Access) (j : ℕ) (k : Kind) → slice_get (kinds more) j ≡ Some k → StandsAt (sites_after i done more) j i k
site_after i done [] j k h = absurd (cc)
site_after i done (At_site m ∷ more) zero k h = (record { item = i; kind = m; earlier = done }, refl, refl, one_of m k h)
site_after i done (At_site m ∷ more) (suc j) k h = site_after i (done ++ (At_site m ∷ [])) more j k h
site_after i done (Named_load ∷ more) j k h = site_after i (done ++ (Named_load ∷ [])) more j k h
site_after i done (Named_store ∷ more) j k h = site_after i (done ++ (Named_store ∷ [])) more j k h
site_after i done (Allocates ∷ more) j k h = site_after i (done ++ (Allocates ∷ [])) more j k h

-- numbers begin behind the sites that stand before the list
behind : (is : List Item) (n : ℕ) (i : ItemId) → n < first_from n is i
behind [] n i = omega arith
behind (x ∷ xs) n i =
    elim (x.id.0 == i.0) as (λ b. n < cond b (n + 1) (first_from (n + act_sites x.act) xs i)) [
      | true ↦ omega arith
      | false ↦ let more : n + act_sites x.act < first_from (n + act_sites x.act) xs i = behind xs (n + act_sites x.act) i in omega (arith, more)
    ]

in_list : (is : List Item) → AreApart is → (x : Item) (n q j : ℕ) (k : Kind) → Contains is x → slice_get (kinds (act_accesses x.act)) j ≡ Some k → suc (n + q) ≡ first_from n is x.id + j → StandsAt (sites_in is) q x k
in_list [] apart x n q j k c h is = absurd (in_none x c)
in_list (y ∷ ys) apart x n q j k c h is = elim (in_cons y ys x c) [
  | inl same ↦
      let first : first_from n (y ∷ ys) x.id ≡ n + 1 = ap (λ b. cond b (n + 1) (first_from (n + act_sites y.act) ys x.id)) (eq-eqb y.id.0 x.id.0 (ap (λ z. z.id.0) same)) in
      let place : j ≡ q = omega (arith, is, first) in
      let s = site_after y [] (act_accesses y.act) j k (ap (λ z. slice_get (kinds (act_accesses z.act)) j) same ∙ h) in
      (s.0, ap (slice_get (sites_in (y ∷ ys))) (sym place) ∙ get_left (sites_after y [] (act_accesses y.act)) (sites_in ys) j s.0 s.1, s.2 ∙ same, s.3)
  | inr more ↦
      let m : ℕ = n + act_sites y.act in
      let first : first_from n (y ∷ ys) x.id ≡ first_from m ys x.id = ap (λ b. cond b (n + 1) (first_from m ys x.id)) (ne_eqb y.id.0 x.id.0 (apart.0 x more)) in
      let late : m < first_from m ys x.id = behind ys m x.id in
      let s = in_list ys apart.1 x m (q - act_sites y.act) j k more h (omega (arith, is, first, late)) in
      let count : length (sites_after y [] (act_accesses y.act)) ≡ act_sites y.act = count_after y [] (act_accesses y.act) ∙ act_count y.act in
      (s.0, get_right (sites_after y [] (act_accesses y.act)) (sites_in ys) (q - act_sites y.act) q s.0 (omega (arith, count, is, first, late)) s.1, s.2, s.3)
]

pub have_their_numbers : (p : Typed) → IsWellFormed p → SitesHaveTheirNumbers p
have_their_numbers p w i j k c h =
    let is : List Item = all_items p.functions in
    let n : ℕ = first_from 0 is i.id + j in
    let late : 0 < first_from 0 is i.id = behind is 0 i.id in
    let s = in_list is (numbered_apart is 1 (λ m x at. let e : x.id.0 ≡ m + 1 = w.items m x at in omega (arith, e))) i 0 (n - 1) j k c h (omega (arith, late)) in
    let next : n ≡ suc (n - 1) = omega (arith, late) in
    (s.0, ap (numbered (all_sites p)) next ∙ s.1, s.2, s.3)
