-- The parts of a plan make it the plan.
use Rattle.std.proofs.Common.{arith, ◌≡◌, ◌≤◌, ℕ, Bool, true, false, List, map, refl, sym, ap, ◌∙◌, subst, inl, inr}
use Rattle.std.specs.Prelude.{Contains, ◌↔◌, ◌⊎◌, ◌||◌}
use Rattle.std.specs.List.Sorted.{IsStrictlyIncreasing}
use Rattle.ca_tree.specs.declared.numbers.FunId.{FunId}
use Rattle.ca_tree.specs.declared.numbers.ItemId.{ItemId}
use Rattle.ca_tree.specs.declared.numbers.SiteId.{SiteId}
use Rattle.ca_model.specs.declared.tree.Item.{Item}
use Rattle.ca_model.specs.declared.tree.Function.{Function}
use Rattle.ca_model.specs.declared.plan.Plan.{Plan}
use Rattle.ca_model.specs.Codes.{Typed}
use Rattle.ca_model.specs.Accesses.{Site}
use Rattle.ca_model.specs.Sites.{all_items}
use Rattle.ca_model.specs.Bounds.{IsBounded}
use Rattle.ca_model.specs.WellFormed.{IsWellFormed}
use Rattle.ca_model.specs.Destroying.{is_lock, has_malloc}
use Rattle.ca_model.specs.Paths.{Before, PointAfter, PointAtEntry}
use Rattle.ca_model.specs.Plans.{Options, IsSite, IsTaken, ForATaken, IsPlanOf, can_acquire}
use Rattle.ca_model.specs.SourceRuns.{no_plan}
use Rattle.ca_model.proofs.ApartItems.{links_are_items, one_item_a_number}
use Rattle.ca_flow.specs.declared.searches.Points.{Points}
use Rattle.ca_flow.proofs.SiteItems.{number_of_site}
use Rattle.ca_callers.specs.Callers.{ForOne}
use Rattle.ca_plan.specs.Planning.{AreTaken, IsItemOfOne, ArePoints, AreItems, AreAcquiring}
use Rattle.ca_plan.proofs.LinksGoOn.{next_goes_on}

-- acquiring, where it is a `malloc`
or_right : (b c : Bool) → c ≡ true → (b || c) ≡ true
or_right true c h = refl
or_right false c h = h

pub before_is_item : (p : Typed) (depth : ℕ) (s j : Item) → Before p depth s j → Contains (all_items p.functions) j
before_is_item p depth s j h = elim h.3 [
  | inl back ↦ (links_are_items p j h.0.0 back.0).0
  | inr up ↦ up.4.0
]

pub sites_there : (p : Typed) (o : Options) (sites : List SiteId) → AreTaken p o sites → (read : List SiteId) → read ≡ sites → (n : SiteId) → Contains read n → (s : Site) × IsSite p s n
sites_there p o sites taken read same n c = let h = (taken n).0 (subst (λ l. Contains l n) same c) in (h.0, h.1.0)

pub before_items : (p : Typed) (depth : ℕ) (from : List ItemId) (r : Points) → ArePoints p depth from r → AreItems p r.items
before_items p depth from r points i c =
    let h = (points.items i).0 c in
    let (x, has, is, before) = h.2 in
    (h.0, (before_is_item p depth x h.0 before, h.1))

-- lists that are read through references
pub items_in : (p : Typed) (items read : List ItemId) → read ≡ items → AreItems p items → AreItems p read
items_in p items read same are = subst (AreItems p) (sym same) are

pub read_items_of : (p : Typed) (sites read : List SiteId) (own : List ItemId) → read ≡ sites → ((i : ItemId) → Contains own i ↔ IsItemOfOne p read i) → (i : ItemId) → Contains own i ↔ IsItemOfOne p sites i
read_items_of p sites read own same are = subst (λ l. (i : ItemId) → Contains own i ↔ IsItemOfOne p l i) same are

pub read_acquiring : (p : Typed) (before before' own own' items : List ItemId) → before' ≡ before → own' ≡ own → AreAcquiring p before' own' items → AreAcquiring p before own items
read_acquiring p before before' own own' items first second are = subst (λ l. AreAcquiring p l own items) first (subst (λ l. AreAcquiring p before' l items) second are)

module _ (p : Typed) (o : Options) (formed : IsWellFormed p) (sites : List SiteId) (own : List ItemId) (taken : AreTaken p o sites) (items : (i : ItemId) → Contains own i ↔ IsItemOfOne p sites i) where
  site_item : (s : Site) (n : SiteId) → IsSite p s n → Contains (all_items p.functions) s.item
  site_item s n is = (number_of_site p no_plan formed s n is).0

  pub own_items : AreItems p own
  own_items i c = let h = (items i).0 c in (h.2.item, (site_item h.2 h.0 h.3, h.4))

  -- a property of one of the items is one of the item of a site that is taken
  to_taken : (P : Item → Type 0) → ForOne p own P → ForATaken p o P
  to_taken P (x, has, is, h) =
      let found = (items x.id).0 has in
      let (n, listed, s, at, number) = found in
      let other = (taken n).0 listed in
      let same : s.item ≡ x = one_item_a_number p formed s.item x (site_item s n at) is.0 (ap (λ (i : ItemId). i.0) number) in
      let one : other.0 ≡ s = cc in
      (s, n, subst (λ (t : Site). IsTaken p o t n) one other.1, subst P (sym same) h)

  from_taken : (P : Item → Type 0) → ForATaken p o P → ForOne p own P
  from_taken P (s, n, t, h) = (s.item, (items s.item.id).1 (n, (taken n).1 (s, t), s, t.0, refl), (site_item s n t.0, refl), h)

  listed_for : (A N : Type 0) (number : A → N) (R : Item → A → Type 0) (xs : List N) (m : N) → Contains xs m ↔ ((x : A) × (number x ≡ m) × ForOne p own (λ y. R y x))
      → Contains xs m ↔ ((x : A) × (number x ≡ m) × ForATaken p o (λ y. R y x))
  listed_for A N number R xs m found = (
    (λ c. let h = found.0 c in (h.0, h.1, to_taken (λ y. R y h.0) h.2)),
    (λ h. found.1 (h.0, h.1, from_taken (λ y. R y h.0) h.2)),
  )

  module _ (bounded : IsBounded p) (r : Points) (points : ArePoints p o.depth own r) (acquires : List ItemId) (acquiring : AreAcquiring p r.items own acquires) where
    same_item : (x y : Item) → Contains (all_items p.functions) x → Contains (all_items p.functions) y → x.id ≡ y.id → x ≡ y
    same_item x y is also same = one_item_a_number p formed x y is also (ap (λ (i : ItemId). i.0) same)

    abbrev Acquired : Item → Item → Type 0
    Acquired j x = ((can_acquire j.act ≡ true) × Before p o.depth x j) ⊎ ((has_malloc j.act ≡ true) × (x ≡ j))

    to_acquired : (i : ItemId) → Contains acquires i → (j : Item) × (j.id ≡ i) × ForATaken p o (Acquired j)
    to_acquired i c =
        let (x, at, passes) = (acquiring i).0 c in
        elim passes [
          | inl (can, before) ↦
              let h = (points.items i).0 before in
              let found = to_taken (λ y. Before p o.depth y h.0) h.2 in
              let same : h.0 ≡ x = same_item h.0 x (before_is_item p o.depth found.0.item h.0 found.3) at.0 (h.1 ∙ sym at.1) in
              (x, at.1, (found.0, found.1, found.2, inl (can, subst (Before p o.depth found.0.item) same found.3)))
          | inr (allocates, has) ↦
              let found = to_taken (λ y. y ≡ x) (x, subst (Contains own) (sym at.1) has, (at.0, refl), refl) in
              (x, at.1, (found.0, found.1, found.2, inr (allocates, found.3)))
        ]

    from_acquired : (i : ItemId) → ((j : Item) × (j.id ≡ i) × ForATaken p o (Acquired j)) → Contains acquires i
    from_acquired i (j, number, (s, n, t, h)) = elim h [
      | inl (can, before) ↦ (acquiring i).1 (j, (before_is_item p o.depth s.item j before, number), inl (can, (points.items i).1 (j, number, from_taken (λ y. Before p o.depth y j) (s, n, t, before))))
      | inr (allocates, same) ↦
          let is : Contains (all_items p.functions) j = subst (Contains (all_items p.functions)) same (site_item s n t.0) in
          let has = (items s.item.id).1 (n, (taken n).1 (s, t), s, t.0, refl) in
          (acquiring i).1 (j, (is, number), inr (allocates, subst (Contains own) (ap (λ (x : Item). x.id) same ∙ number) has))
    ]

    pub assembled : (plan : Plan) → plan.limit ≡ o.limit → plan.saves_after ≡ r.after → plan.saves_at_entry ≡ r.entries → plan.sites ≡ sites → plan.acquires ≡ acquires
        → o.limit ≤ 10000 → IsStrictlyIncreasing (map (λ s. s.0) sites) → IsStrictlyIncreasing (map (λ i. i.0) acquires) → IsPlanOf p o plan
    assembled plan limit after entries are acquired small sites-ascend acquires-ascend = record {
      fits = record {
        limit = omega (arith, limit, small);
        saves_ascend = subst (λ (l : List ItemId). IsStrictlyIncreasing (map (λ i. i.0) l)) (sym after) points.after_ascend;
        entries_ascend = subst (λ (l : List FunId). IsStrictlyIncreasing (map (λ f. f.0) l)) (sym entries) points.entries_ascend;
        sites_ascend = subst (λ (l : List SiteId). IsStrictlyIncreasing (map (λ s. s.0) l)) (sym are) sites-ascend;
        acquires_ascend = subst (λ (l : List ItemId). IsStrictlyIncreasing (map (λ i. i.0) l)) (sym acquired) acquires-ascend;
        saves = λ i c.
            let h = (points.after i).0 (subst (λ l. Contains l i) after c) in
            let (x, has, is, point) = h.2 in
            let link = point.2 in
            (h.0, ((links_are_items p h.0 point.0.0 link).0, h.1), point.3, next_goes_on p formed h.0 point.0.0 link);
        entries = λ n c. let h = (points.entries n).0 (subst (λ l. Contains l n) entries c) in (h.0, (h.2.3.0, h.1));
        sites = λ n c. sites_there p o sites taken plan.sites are n c;
        acquires = λ i c.
            let (x, at, passes) = (acquiring i).0 (subst (λ l. Contains l i) acquired c) in
            (x, at, elim passes [ inl (can, before) ↦ can | inr (allocates, has) ↦ or_right (is_lock x.act) (has_malloc x.act) allocates ]);
      };
      limit = limit;
      sites = λ n. subst (λ l. Contains l n ↔ ((s : Site) × IsTaken p o s n)) (sym are) (taken n);
      saves_after = λ i. subst (λ l. Contains l i ↔ ((j : Item) × (j.id ≡ i) × ForATaken p o (λ x. PointAfter p o.depth x j))) (sym after) (listed_for Item ItemId (λ j. j.id) (λ y j. PointAfter p o.depth y j) r.after i (points.after i));
      saves_at_entry = λ n. subst (λ l. Contains l n ↔ ((f : Function) × (f.id ≡ n) × ForATaken p o (λ x. PointAtEntry p o.depth x f))) (sym entries) (listed_for Function FunId (λ f. f.id) (λ y f. PointAtEntry p o.depth y f) r.entries n (points.entries n));
      acquires = λ i. subst (λ l. Contains l i ↔ ((j : Item) × (j.id ≡ i) × ForATaken p o (Acquired j))) (sym acquired) (to_acquired i, from_acquired i);
    }
