-- The plan of a well-formed source is sound.
use Rattle.std.proofs.Common.{arith, ◌≡◌, ℕ, zero, suc, ◌+◌, ◌<◌, ◌≤◌, Bool, true, false, List, [], ◌∷◌, ◌++◌, Option, Some, None, refl, sym, ap, ◌∙◌, subst, inl, inr}
use Rattle.std.specs.Prelude.{Contains, ◌⊎◌}
use Rattle.std.proofs.lemmas.Bool.{cases_lt}
use Rattle.std.proofs.lemmas.List.Elements.{Contains-append_cases}
use Rattle.ca_tree.specs.declared.numbers.SiteId.{SiteId}
use Rattle.ca_model.specs.declared.plan.Plan.{Plan}
use Rattle.ca_model.specs.declared.tree.Item.{Item}
use Rattle.ca_model.specs.declared.tree.Function.{Function}
use Rattle.ca_model.specs.Codes.{Typed}
use Rattle.ca_model.specs.Sites.{all_items}
use Rattle.ca_model.specs.Accesses.{Access, At_site, Named_load, Named_store, Allocates, act_accesses, Site, sites_after, sites_in, all_sites, numbered}
use Rattle.ca_model.specs.Links.{first_item, Next}
use Rattle.ca_model.specs.Destroying.{destroys}
use Rattle.ca_model.specs.Paths.{IsCall, BeginsThreads, OnPath, begins, goes}
use Rattle.ca_model.specs.Plans.{IsSite, Options, IsTaken, ForATaken, IsPlanOf, can_acquire, SavesAfter, SavesAtEntry, Acquires, IsSound}
use Rattle.ca_model.specs.WellFormed.{IsWellFormed}
use Rattle.ca_model.proofs.Members.{in_none}
use Rattle.ca_model.proofs.Law.{one_of}
use Rattle.ca_model.proofs.Members.{in_cons, at_head, at_tail}
use Rattle.ca_model.proofs.FiniteClosure.{along, closure, has_starts, comes, closed}
use Rattle.ca_model.proofs.ApartItems.{links_are_items, one_function_a_first}
use Rattle.ca_model.proofs.PlanTests.{begins_threads, true_begins, false_begins, is_back, back_true, true_back, ups, ups_true, true_ups}

-- the item of a site is an item of the source
pub of_item : (i : Item) (done as' : List Access) (s : Site) → Contains (sites_after i done as') s → i ≡ s.item
of_item i done [] s c = absurd (in_none s c)
of_item i done (At_site k ∷ more) s c = elim (in_cons (record { item = i; kind = k; earlier = done }) (sites_after i (done ++ (At_site k ∷ [])) more) s c) [
  | inl is ↦ ap (λ x. x.item) is
  | inr rest ↦ of_item i (done ++ (At_site k ∷ [])) more s rest
]
of_item i done (Named_load ∷ more) s c = of_item i (done ++ (Named_load ∷ [])) more s c
of_item i done (Named_store ∷ more) s c = of_item i (done ++ (Named_store ∷ [])) more s c
of_item i done (Allocates ∷ more) s c = of_item i (done ++ (Allocates ∷ [])) more s c

pub of_items : (is : List Item) (s : Site) → Contains (sites_in is) s → Contains is s.item
of_items [] s c = absurd (in_none s c)
of_items (i ∷ is) s c = elim (Contains-append_cases (sites_after i [] (act_accesses i.act)) (sites_in is) s c) [
  | inl here ↦ subst (Contains (i ∷ is)) (of_item i [] (act_accesses i.act) s here) (at_head i is)
  | inr more ↦ at_tail i is s.item (of_items is s more)
]

pub numbered_in : (ss : List Site) (n : ℕ) (s : Site) → numbered ss n ≡ Some s → Contains ss s
numbered_in ss zero s is = absurd (cc)
numbered_in [] (suc n) s is = absurd (cc)
numbered_in (x ∷ ss) (suc zero) s is = subst (Contains (x ∷ ss)) (one_of x s is) (at_head x ss)
numbered_in (x ∷ ss) (suc (suc n)) s is = at_tail x ss s (numbered_in ss (suc n) s is)

pub site_is_item : (p : Typed) (s : Site) (n : SiteId) → IsSite p s n → Contains (all_items p.functions) s.item
site_is_item p s n is = of_items (all_items p.functions) s (numbered_in (all_sites p) n.0 s is)

-- the items of some sites
abbrev with_item : Option Site → List Item → List Item
with_item None is = is
with_item (Some s) is = s.item ∷ is

abbrev items_of_sites : Typed → List SiteId → List Item
items_of_sites p [] = []
items_of_sites p (n ∷ ns) = with_item (numbered (all_sites p) n.0) (items_of_sites p ns)

module _ (p : Typed) where
  head_item : (o : Option Site) (s : Site) (is : List Item) → o ≡ Some s → Contains (with_item o is) s.item
  head_item None s is same = absurd (cc)
  head_item (Some x) s is same = subst (λ y. Contains (x.item ∷ is) y.item) (one_of x s same) (at_head x.item is)

  more_items : (o : Option Site) (is : List Item) (i : Item) → Contains is i → Contains (with_item o is) i
  more_items None is i c = c
  more_items (Some x) is i c = at_tail x.item is i c

  has_item : (ns : List SiteId) (n : SiteId) (s : Site) → Contains ns n → IsSite p s n → Contains (items_of_sites p ns) s.item
  has_item [] n s c is = absurd (in_none n c)
  has_item (m ∷ ns) n s c is = elim (in_cons m ns n c) [
    | inl same ↦ head_item (numbered (all_sites p) m.0) s (items_of_sites p ns) (ap (λ k. numbered (all_sites p) k.0) same ∙ is)
    | inr more ↦ more_items (numbered (all_sites p) m.0) (items_of_sites p ns) s.item (has_item ns n s more is)
  ]

  which_item : (o : Option Site) (is : List Item) (i : Item) → Contains (with_item o is) i → ((s : Site) × (o ≡ Some s) × (s.item ≡ i)) ⊎ Contains is i
  which_item None is i c = inr c
  which_item (Some x) is i c = elim (in_cons x.item is i c) [ inl same ↦ inl (x, refl, same) | inr more ↦ inr more ]

  whose_item : (ns : List SiteId) (i : Item) → Contains (items_of_sites p ns) i → (s : Site) × (n : SiteId) × Contains ns n × IsSite p s n × (s.item ≡ i)
  whose_item [] i c = absurd (in_none i c)
  whose_item (n ∷ ns) i c = elim (which_item (numbered (all_sites p) n.0) (items_of_sites p ns) i c) [
    | inl here ↦ (here.0, n, at_head n ns, here.1, here.2)
    | inr more ↦ let s = whose_item ns i more in (s.0, s.1, at_tail n ns s.1 s.2, s.3, s.4)
  ]

module _ (p : Typed) (formed : IsWellFormed p) (o : Options) (plan : Plan) (is : IsPlanOf p o plan) where
  taken : (s : Site) (n : SiteId) → Contains plan.sites n → IsSite p s n → IsTaken p o s n
  taken s n c at = let t = (is.sites n).0 c in subst (λ x. IsTaken p o x n) (one_of t.0 s (sym t.1.0 ∙ at)) t.1

  -- a path from a site that is taken comes to an item, after some calls gone up
  abbrev Comes : ℕ → Item → Type 0
  Comes k i = ForATaken p o (λ x. OnPath p o.depth x (i, k))

  abbrev IsItemThatComes : ℕ → Item → Type 0
  IsItemThatComes k i = Contains (all_items p.functions) i × Comes k i

  one_back : (k : ℕ) (i j : Item) → Next p j i → destroys j.act ≡ false → Comes k i → Comes k j
  one_back k i j next harmless (s, n, t, path) = (s, n, t, goes {a = (i, k)} {b = (j, k)} path (inl (next, harmless, refl)))

  abbrev within : List Item → List Item
  within starts = closure (is_back p) (all_items p.functions) starts

  all_come : (k : ℕ) (starts : List Item) → ((i : Item) → Contains starts i → IsItemThatComes k i) → (i : Item) → Contains (within starts) i → IsItemThatComes k i
  all_come k starts come i c = elim (comes (is_back p) (all_items p.functions) starts i c) [
    | inl start ↦ come i start
    | inr led ↦
        let from = come led.1.0 led.1.1 in
        let ways : Comes k led.1.0 → Comes k i =
        along (is_back p) (Contains (all_items p.functions)) (λ a b. Comes k a → Comes k b)
        (λ a b ca cb e. let h = true_back p formed a b ca cb e in one_back k a b h.0 h.1)
        (λ a b c f g x. g (f x))
        (all_items p.functions) (λ v c. c) led.1.0 i from.0 led.0 led.1.2 in
        (led.0, ways from.1)
  ]

  sets : ℕ → List Item
  sets zero = within (items_of_sites p plan.sites)
  sets (suc k) = within (ups p (sets k))

  in_sets : (k : ℕ) → k ≤ o.depth → (i : Item) → Contains (sets k) i → IsItemThatComes k i
  unfolding sets
  in_sets zero le i c = all_come 0 (items_of_sites p plan.sites) (λ j d.
      let s = whose_item p plan.sites j d in
      subst (IsItemThatComes 0) s.4 (site_is_item p s.0 s.1 s.3, (s.0, s.1, taken s.0 s.1 s.2 s.3, begins))) i c
  in_sets (suc k) le i c = all_come (suc k) (ups p (sets k)) (λ j d.
      let u = true_ups p formed (sets k) j (λ x h. (in_sets k (omega arith) x h).0) d in
      let r : Comes k (first_item u.0) = (in_sets k (omega arith) (first_item u.0) u.2).1 in
      (u.4.0, (r.0, r.1, r.2, goes {a = (first_item u.0, k)} {b = (j, suc k)} r.3 (inr (u.0, u.1, refl, u.3, u.4, omega arith, omega arith))))) i c

  set_has_starts : (s : Site) (n : SiteId) → Contains plan.sites n → IsSite p s n → Contains (sets 0) s.item
  unfolding sets
  set_has_starts s n c at = has_starts (is_back p) (all_items p.functions) (items_of_sites p plan.sites) s.item (has_item p plan.sites n s c at)

  set_goes_back : (k : ℕ) (i j : Item) → Contains (sets k) i → Next p j i → destroys j.act ≡ false → Contains (sets k) j
  unfolding sets
  set_goes_back zero i j c next harmless = closed (is_back p) (all_items p.functions) (items_of_sites p plan.sites) i j c (links_are_items p j i next).0 (back_true p i j next harmless)
  set_goes_back (suc k) i j c next harmless = closed (is_back p) (all_items p.functions) (ups p (sets k)) i j c (links_are_items p j i next).0 (back_true p i j next harmless)

  set_goes_up : (k : ℕ) (f : Function) → Contains p.functions f → Contains (sets k) (first_item f) → begins_threads p f ≡ false → (c : Item) → IsCall p c f → Contains (sets (k + 1)) c
  unfolding sets
  set_goes_up k f within first alone c call =
      let next : suc k ≡ k + 1 = omega arith in
      subst (λ m. Contains (sets m) c) next (has_starts (is_back p) (all_items p.functions) (ups p (sets k)) c (ups_true p (sets k) c f within first alone call))

  -- at an entry from which no path goes up there is a save
  stuck : (k : ℕ) (f : Function) → Contains p.functions f → Comes k (first_item f) → ((BeginsThreads p f → ⊥) → k < o.depth → ⊥) → SavesAtEntry plan f
  stuck k f c (s, n, t, path) no_way = (is.saves_at_entry f.id).1 (
    f,
    refl,
    (
      s,
      n,
      t,
      (
        c,
        (
          k,
          path,
          λ b up.
              let same : up.0 ≡ f = one_function_a_first p formed up.0 f up.1 c up.2 in
              no_way (subst (λ g. BeginsThreads p g → ⊥) same up.3) up.5,
        ),
      ),
    ),
  )

  goes_on : (k : ℕ) (f : Function) → k ≤ o.depth → Contains p.functions f → Contains (sets k) (first_item f) → (b : Bool) → begins_threads p f ≡ b → (k < o.depth) ⊎ (o.depth ≤ k)
      → SavesAtEntry plan f ⊎ ((BeginsThreads p f → ⊥) × (k < o.depth) × ((c : Item) → IsCall p c f → Contains (sets (k + 1)) c))
  goes_on k f le c first true begun where' = inl (stuck k f c (in_sets k le (first_item f) first).1 (λ alone lt. alone (true_begins p f begun)))
  goes_on k f le c first false alone (inr past) = inl (stuck k f c (in_sets k le (first_item f) first).1 (λ a lt. omega arith))
  goes_on k f le c first false alone (inl lt) = inr (false_begins p f alone, lt, set_goes_up k f c first alone)

  back_from : (k : ℕ) (i j : Item) → k ≤ o.depth → Contains (sets k) i → Next p j i → (b : Bool) → destroys j.act ≡ b
      → ((destroys j.act ≡ true) × SavesAfter plan j) ⊎ ((destroys j.act ≡ false) × Contains (sets k) j × (can_acquire j.act ≡ true → Acquires plan j))
  back_from k i j le c next true destroyed =
      let r : Comes k i = (in_sets k le i c).1 in
      inl (destroyed, (is.saves_after j.id).1 (j, refl, (r.0, r.1, r.2, ((i, k), r.3, next, destroyed))))
  back_from k i j le c next false harmless =
      let r : Comes k i = (in_sets k le i c).1 in
      inr (harmless, set_goes_back k i j c next harmless, λ acquired. (is.acquires j.id).1 (j, refl, (r.0, r.1, r.2, inl (acquired, ((i, k), k, r.3, inl (next, harmless, refl))))))

  pub sound : IsSound p plan
  sound = record {
    last = o.depth;
    sets = sets;
    sites = λ s n c at. (set_has_starts s n c at, λ own. (is.acquires s.item.id).1 (s.item, refl, (s, n, taken s n c at, inr (own, refl))));
    back = λ k i j le c next. back_from k i j le c next (destroys j.act) refl;
    up = λ k f le c first. goes_on k f le c first (begins_threads p f) refl (cases_lt k o.depth);
  }
