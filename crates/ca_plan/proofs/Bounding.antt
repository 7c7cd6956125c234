-- Lists of numbers of 32 bits have what stands before items and where their paths stop, since every item and function has such a number.
use Rattle.std.proofs.Common.{arith, ◌≡◌, ◌<◌, ◌≤◌, ℕ, List, map, length, sym, subst}
use Rattle.std.specs.Prelude.{Contains, ◌↔◌}
use Rattle.std.specs.List.Sorted.{IsStrictlyIncreasing}
use Rattle.ca_tree.specs.declared.numbers.FunId.{FunId}
use Rattle.ca_tree.specs.declared.numbers.ItemId.{ItemId}
use Rattle.ca_model.specs.declared.tree.Item.{Item}
use Rattle.ca_model.specs.declared.tree.Function.{Function}
use Rattle.ca_model.specs.Codes.{Typed}
use Rattle.ca_model.specs.Sites.{all_items}
use Rattle.ca_model.specs.Bounds.{IsBounded}
use Rattle.ca_model.specs.WellFormed.{IsWellFormed}
use Rattle.ca_model.specs.Paths.{Before, PointAfter, PointAtEntry}
use Rattle.ca_model.proofs.ApartItems.{links_are_items}
use Rattle.ca_flow.specs.declared.searches.Points.{Points}
use Rattle.ca_flow.proofs.FunctionItems.{all_numbered, number_within, place_of}
use Rattle.ca_callers.specs.Callers.{ForOne}
use Rattle.ca_plan.specs.Planning.{ArePoints, AreItems}
use Rattle.ca_plan.proofs.Assembling.{before_is_item}
use Rattle.ca_plan.proofs.Setting.{Fit}

pub items_read : (q p : Typed) → q ≡ p → (from : List ItemId) → AreItems p from → AreItems q from
items_read q p is from are = subst (λ (t : Typed). AreItems t from) (sym is) are

-- what is found by the links of a source
pub points_read : (q p : Typed) → q ≡ p → (depth : ℕ) (from : List ItemId) (r : Points) → ArePoints q depth from r → ArePoints p depth from r
points_read q p is depth from r are = subst (λ (t : Typed). ArePoints t depth from r) is are

all_numbers : (A N : Type 0) (number : A → N) (size : N → ℕ) (xs read : List N) (R : A → Type 0) → read ≡ xs → Fit N size read → ((x : A) → R x → size (number x) < 4294967296)
    → ((n : N) → size n < 4294967296 → Contains xs n ↔ ((x : A) × (number x ≡ n) × R x)) → (n : N) → Contains xs n ↔ ((x : A) × (number x ≡ n) × R x)
all_numbers A N number size xs read R same fit small exact n = (
  (λ c. (exact n (fit n (subst (λ l. Contains l n) (sym same) c))).0 c),
  (λ h. (exact n (subst (λ m. size m < 4294967296) h.1 (small h.0 h.2))).1 h),
)

module _ (p : Typed) (formed : IsWellFormed p) (bounded : IsBounded p) where
  item_fits : (x : Item) → Contains (all_items p.functions) x → x.id.0 < 4294967296
  item_fits x own =
      let low : x.id.0 ≤ length (all_items p.functions) = (number_within (all_items p.functions) (all_numbered p formed) x own).1 in
      omega (arith, low, bounded.items)

  function_fits : (f : Function) → Contains p.functions f → f.id.0 < 4294967296
  function_fits f own =
      let at = place_of p.functions f own in
      let number : f.id.0 ≡ at.0 = formed.functions at.0 f at.1 in
      let lt : at.0 < length p.functions = at.2 in
      omega (arith, number, lt, bounded.functions)

  pub all_points : (depth : ℕ) (from : List ItemId) (q : Typed) → q ≡ p → (r : Points) (items after : List ItemId) (entries : List FunId) → items ≡ r.items → after ≡ r.after → entries ≡ r.entries
      → Fit ItemId (λ i. i.0) items → Fit ItemId (λ i. i.0) after → Fit FunId (λ f. f.0) entries
      → ((i : ItemId) → i.0 < 4294967296 → Contains r.items i ↔ ((j : Item) × (j.id ≡ i) × ForOne q from (λ x. Before q depth x j)))
      → ((i : ItemId) → i.0 < 4294967296 → Contains r.after i ↔ ((j : Item) × (j.id ≡ i) × ForOne q from (λ x. PointAfter q depth x j)))
      → ((n : FunId) → n.0 < 4294967296 → Contains r.entries n ↔ ((f : Function) × (f.id ≡ n) × ForOne q from (λ x. PointAtEntry q depth x f)))
      → IsStrictlyIncreasing (map (λ i. i.0) r.after) → IsStrictlyIncreasing (map (λ f. f.0) r.entries) → ArePoints p depth from r
  all_points depth from q is r items after entries items-is after-is entries-is items-fit after-fit entries-fit befores afters starts after-up entries-up = record {
    items = all_numbers Item ItemId (λ j. j.id) (λ i. i.0) r.items items (λ j. ForOne p from (λ x. Before p depth x j)) items-is items-fit
        (λ j h. let (x, has, own, before) = h in item_fits j (before_is_item p depth x j before))
        (subst (λ (q : Typed). (i : ItemId) → i.0 < 4294967296 → Contains r.items i ↔ ((j : Item) × (j.id ≡ i) × ForOne q from (λ x. Before q depth x j))) is befores);
    after = all_numbers Item ItemId (λ j. j.id) (λ i. i.0) r.after after (λ j. ForOne p from (λ x. PointAfter p depth x j)) after-is after-fit
        (λ j h. let (x, has, own, point) = h in item_fits j (links_are_items p j point.0.0 point.2).0)
        (subst (λ (q : Typed). (i : ItemId) → i.0 < 4294967296 → Contains r.after i ↔ ((j : Item) × (j.id ≡ i) × ForOne q from (λ x. PointAfter q depth x j))) is afters);
    entries = all_numbers Function FunId (λ f. f.id) (λ f. f.0) r.entries entries (λ f. ForOne p from (λ x. PointAtEntry p depth x f)) entries-is entries-fit
        (λ f h. let (x, has, own, point) = h in function_fits f point.0)
        (subst (λ (q : Typed). (n : FunId) → n.0 < 4294967296 → Contains r.entries n ↔ ((f : Function) × (f.id ≡ n) × ForOne q from (λ x. PointAtEntry q depth x f))) is starts);
    after_ascend = after-up;
    entries_ascend = entries-up;
  }
