-- The plan of a source: what its options name, and what stands before the sites that it takes.
use Rattle.std.specs.Prelude.{◌≡◌, ◌<◌, ℕ, Bool, true, false, List, [], ◌∷◌, ◌++◌, map, length, Option, Some, None, option_map, Contains, ◌⊎◌, ◌↔◌}
use Rattle.std.specs.List.Sorted.{IsStrictlyIncreasing}
use Rattle.ca_tree.specs.declared.numbers.FunId.{FunId}
use Rattle.ca_tree.specs.declared.numbers.ItemId.{ItemId}
use Rattle.ca_tree.specs.declared.numbers.SiteId.{SiteId}
use Rattle.ca_reach.specs.Reach.{IsSet}
use Rattle.ca_model.specs.declared.tree.Act.{Act}
use Rattle.ca_model.specs.declared.tree.Item.{Item}
use Rattle.ca_model.specs.declared.tree.Function.{Function}
use Rattle.ca_model.specs.declared.plan.Plan.{Plan}
use Rattle.ca_model.specs.Accesses.{Site}
use Rattle.ca_model.specs.Codes.{Typed}
use Rattle.ca_model.specs.Destroying.{has_malloc}
use Rattle.ca_model.specs.Paths.{Before, PointAfter, PointAtEntry}
use Rattle.ca_model.specs.Plans.{Options, IsItem, IsSite, IsTaken, IsPlanOf, can_acquire}
use Rattle.ca_flow.specs.declared.searches.Points.{Points}
use Rattle.ca_callers.specs.Callers.{ForOne}
use Rattle.ca_plan.specs.declared.options.PlanOptions.{PlanOptions}

-- ---- options

abbrev pub site : ℕ → SiteId
site n = record { 0 = n }

-- the options as plans know them
abbrev pub options_of : PlanOptions → Options
options_of o = record { limit = o.limit; depth = o.depth; only = option_map (map site) o.only }

-- the numbers that are named, where some are
abbrev pub named : Option (List ℕ) → List ℕ
named None = []
named (Some ns) = ns

abbrev pub IsSiteNumber : Typed → ℕ → Type 0
IsSiteNumber p n = (s : Site) × IsSite p s (site n)

abbrev pub AreSiteNumbers : Typed → List ℕ → Type 0
AreSiteNumbers p ns = (n : ℕ) → Contains ns n → IsSiteNumber p n

-- the first of some numbers that is no site's
abbrev pub IsFirstNoSite : Typed → List ℕ → ℕ → Type 0
IsFirstNoSite p ns n = (before after : List ℕ) × (ns ≡ before ++ n ∷ after) × AreSiteNumbers p before × (IsSiteNumber p n → ⊥)

-- ---- laws

abbrev pub OnePlan : Type 0
OnePlan = (p : Typed) (o : Options) (plan other : Plan) → IsPlanOf p o plan → IsPlanOf p o other → plan ≡ other

abbrev pub OneFirstNoSite : Type 0
OneFirstNoSite = (p : Typed) (ns : List ℕ) (n m : ℕ) → IsFirstNoSite p ns n → IsFirstNoSite p ns m → n ≡ m

-- ---- the parts of a plan

-- the sites that are taken
abbrev pub AreTaken : Typed → Options → List SiteId → Type 0
AreTaken p o sites = (n : SiteId) → Contains sites n ↔ ((s : Site) × IsTaken p o s n)

-- a site is added where a test is passed
abbrev pub MayPush : Bool → List SiteId → List SiteId → SiteId → Type 0
MayPush test sites sites' n = ((test ≡ true) × (sites' ≡ sites ++ n ∷ [])) ⊎ ((test ≡ false) × (sites' ≡ sites))

-- the item of one of some sites
abbrev pub IsItemOfOne : Typed → List SiteId → ItemId → Type 0
IsItemOfOne p sites i = (n : SiteId) × Contains sites n × (s : Site) × IsSite p s n × (s.item.id ≡ i)

-- what stands before some items, and where the paths from them stop
pub record ArePoints (p : Typed) (depth : ℕ) (from : List ItemId) (r : Points) : Type 0 where
  pub items : (i : ItemId) → Contains r.items i ↔ ((j : Item) × (j.id ≡ i) × ForOne p from (λ x. Before p depth x j))
  pub after : (i : ItemId) → Contains r.after i ↔ ((j : Item) × (j.id ≡ i) × ForOne p from (λ x. PointAfter p depth x j))
  pub entries : (n : FunId) → Contains r.entries n ↔ ((f : Function) × (f.id ≡ n) × ForOne p from (λ x. PointAtEntry p depth x f))
  pub after_ascend : IsStrictlyIncreasing (map (λ i. i.0) r.after)
  pub entries_ascend : IsStrictlyIncreasing (map (λ f. f.0) r.entries)

-- each of some numbers is an item's
abbrev pub AreItems : Typed → List ItemId → Type 0
AreItems p items = (i : ItemId) → Contains items i → (x : Item) × IsItem p x i

-- an item with one of some numbers passes a test
abbrev pub IsAmong : Typed → List ItemId → (Act → Bool) → ℕ → Type 0
IsAmong p items test m = (x : Item) × IsItem p x x.id × Contains items x.id × (test x.act ≡ true) × (x.id.0 ≡ m)

-- flags are set for what has some property
abbrev pub Sets : List Bool → List Bool → (ℕ → Type 0) → Type 0
Sets flags flags' P = (m : ℕ) → IsSet flags' m ↔ (IsSet flags m ⊎ (P m × (m < length flags)))

-- the items that acquire: among those before, and among the items of the sites those with a `malloc`
abbrev pub AreAcquiring : Typed → List ItemId → List ItemId → List ItemId → Type 0
AreAcquiring p before own items = (i : ItemId) → Contains items i ↔ ((x : Item) × IsItem p x i × (((can_acquire x.act ≡ true) × Contains before i) ⊎ ((has_malloc x.act ≡ true) × Contains own i)))
