-- What is marked, as lists.
use Rattle.std.proofs.Common.{◌≡◌, ◌<◌, ◌≤◌, ◌+◌, ℕ, Bool, List, map, refl, sym, ap, subst, inl, inr, arith}
use Rattle.std.specs.Prelude.{Contains, ◌↔◌}
use Rattle.ca_tree.specs.declared.numbers.ItemId.{ItemId}
use Rattle.ca_tree.specs.declared.numbers.FunId.{FunId}
use Rattle.ca_reach.specs.Reach.{IsSet}
use Rattle.ca_model.specs.declared.tree.Item.{Item}
use Rattle.ca_model.specs.declared.tree.Function.{Function}
use Rattle.ca_model.specs.Codes.{Typed}
use Rattle.ca_model.specs.Links.{first_item}
use Rattle.ca_model.specs.Paths.{Stop, GoesUp, OnPath, begins, goes, Before, PointAfter, PointAtEntry}
use Rattle.ca_callers.specs.Callers.{ForOne, item_number, function_number, SeenFrom, SeesBefore, SeesAfter, SeesEntry, AreFlagsOf}
use Rattle.ca_callers.proofs.Rows.{numbered_member}
use Rattle.ca_callers.proofs.Listing.{IsListOf, listed_at}

level : (p : Typed) (depth : ℕ) (s : Item) (a : Stop) → OnPath p depth s a → a.1 ≤ depth
level p depth s a begins = omega arith
level p depth s a (goes {a = b} on (inl (next, d, e))) = let below : b.1 ≤ depth = level p depth s b on in omega (arith, e, below)
level p depth s a (goes {a = b} on (inr (f, of, first, threads, call, lt, e))) = omega (arith, e, lt)

item_of : (i j : ItemId) → i.0 ≡ j.0 → i ≡ j
item_of i j is = ap (λ (n : ℕ). let m : ItemId = record { 0 = n } in m) is

function_of : (f g : FunId) → f.0 ≡ g.0 → f ≡ g
function_of f g is = ap (λ (n : ℕ). let m : FunId = record { 0 = n } in m) is

-- the items whose flags are set
pub items_listed : (P Q : Item → Type 0) (flags read : List Bool) (xs rs : List ItemId) → ((j : Item) → P j ↔ Q j) → AreFlagsOf Item item_number P flags → read ≡ flags → IsListOf xs read → rs ≡ xs
    → (i : ItemId) → i.0 < 4294967296 → Contains rs i ↔ ((j : Item) × (j.id ≡ i) × Q j)
items_listed P Q flags read xs rs same are reads lists is i fits = (
  (λ c.
      let h = (are i.0).0 (at.0 ((members i.0).1 (i, subst (λ l. Contains l i) is c, refl))) in
      (h.0, item_of h.0.id i h.2, (same h.0).0 h.1)),
  (λ h.
      let m = (members i.0).0 (at.1 ((are i.0).1 (h.0, (same h.0).1 h.2, ap (λ (k : ItemId). k.0) h.1))) in
      subst (λ l. Contains l i) (sym is) (subst (Contains xs) (item_of m.0 i m.2) m.1)),
)
  where
    members : (n : ℕ) → Contains (map (λ (i : ItemId). i.0) xs) n ↔ ((i : ItemId) × Contains xs i × (i.0 ≡ n))
    members = numbered_member ItemId (λ i. i.0) xs

    at : Contains (map (λ (i : ItemId). i.0) xs) i.0 ↔ IsSet flags i.0
    at = listed_at xs flags i.0 (subst (IsListOf xs) reads lists) fits

-- the functions whose flags are set
pub functions_listed : (P Q : Function → Type 0) (flags read : List Bool) (xs : List ItemId) (fs rs : List FunId) → ((f : Function) → P f ↔ Q f) → AreFlagsOf Function function_number P flags → read ≡ flags → IsListOf xs read
    → map (λ f. f.0) fs ≡ map (λ i. i.0) xs → rs ≡ fs → (n : FunId) → n.0 < 4294967296 → Contains rs n ↔ ((f : Function) × (f.id ≡ n) × Q f)
functions_listed P Q flags read xs fs rs same are reads lists numbers is n fits = (
  (λ c.
      let h = (are n.0).0 (at.0 ((members n.0).1 (n, subst (λ l. Contains l n) is c, refl))) in
      (h.0, function_of h.0.id n h.2, (same h.0).0 h.1)),
  (λ h.
      let m = (members n.0).0 (at.1 ((are n.0).1 (h.0, (same h.0).1 h.2, ap (λ (k : FunId). k.0) h.1))) in
      subst (λ l. Contains l n) (sym is) (subst (Contains fs) (function_of m.0 n m.2) m.1)),
)
  where
    members : (k : ℕ) → Contains (map (λ (f : FunId). f.0) fs) k ↔ ((f : FunId) × Contains fs f × (f.0 ≡ k))
    members = numbered_member FunId (λ f. f.0) fs

    at : Contains (map (λ (f : FunId). f.0) fs) n.0 ↔ IsSet flags n.0
    at = subst (λ l. Contains l n.0 ↔ IsSet flags n.0) (sym numbers) (listed_at xs flags n.0 (subst (IsListOf xs) reads lists) fits)

-- what all layers see
module _ (p : Typed) (depth : ℕ) (from : List ItemId) where
  pub all_before : (j : Item) → SeenFrom Item p depth from (SeesBefore p depth) (depth + 1) j ↔ ForOne p from (λ x. Before p depth x j)
  all_before j = (
    (λ h.
        let (s, has, item, there) = h in
        let (a, on, lt, q) = there in
        (s, has, item, (a, q.0, on, q.1))),
    (λ h.
        let (s, has, item, there) = h in
        let (a, k, on, q) = there in
        let le : a.1 ≤ depth = level p depth s a on in
        (s, has, item, (a, on, omega (arith, le), (k, q)))),
  )

  pub all_after : (j : Item) → SeenFrom Item p depth from (SeesAfter p) (depth + 1) j ↔ ForOne p from (λ x. PointAfter p depth x j)
  all_after j = (
    (λ h.
        let (s, has, item, there) = h in
        let (a, on, lt, q) = there in
        (s, has, item, (a, on, q.0, q.1))),
    (λ h.
        let (s, has, item, there) = h in
        let (a, on, next, d) = there in
        let le : a.1 ≤ depth = level p depth s a on in
        (s, has, item, (a, on, omega (arith, le), (next, d)))),
  )

  pub all_entries : (f : Function) → SeenFrom Function p depth from (SeesEntry p depth) (depth + 1) f ↔ ForOne p from (λ x. PointAtEntry p depth x f)
  all_entries f = (
    (λ h.
        let (s, has, item, there) = h in
        let (a, on, lt, q) = there in
        (s, has, item, (q.0, (a.1, subst (λ i. OnPath p depth s (i, a.1)) (sym q.1) on, subst (λ i. (b : Stop) → GoesUp p depth (i, a.1) b → ⊥) (sym q.1) q.2)))),
    (λ h.
        let (s, has, item, there) = h in
        let (of, at) = there in
        let (k, on, no') = at in
        let le : k ≤ depth = level p depth s (first_item f, k) on in
        (s, has, item, ((first_item f, k), on, omega (arith, le), (of, refl, no')))),
  )
