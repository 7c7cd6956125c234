-- Tests that decide the links of a source, its calls, and which functions begin threads.
use Rattle.std.proofs.Common.{◌≡◌, Bool, true, false, List, refl, ap, subst, inl, inr}
use Rattle.std.specs.Prelude.{Contains, ◌||◌, ◌&&◌, not, nat_eq, filter}
use Rattle.std.specs.List.{list_any}
use Rattle.std.proofs.lemmas.Bool.{eqb-true, eq-eqb, or_cases, and_parts, or_left, or_right, and_from, not-true, not_from_false}
use Rattle.ca_tree.specs.declared.numbers.FunId.{FunId}
use Rattle.ca_model.specs.declared.tree.Act.{Act}
use Rattle.ca_model.specs.declared.tree.Act.TheVariants as act
use Rattle.ca_model.specs.declared.tree.Item.{Item}
use Rattle.ca_model.specs.declared.tree.Function.{Function}
use Rattle.ca_model.specs.Codes.{Typed}
use Rattle.ca_model.specs.Sites.{all_items}
use Rattle.ca_model.specs.Links.{first_item, links_of, Next}
use Rattle.ca_model.specs.Destroying.{destroys}
use Rattle.ca_model.specs.Paths.{Calls, Creates, IsCall, BeginsThreads}
use Rattle.ca_model.specs.WellFormed.{IsWellFormed}
use Rattle.ca_model.proofs.Members.{tested, found, kept, passes}
use Rattle.ca_model.proofs.ApartItems.{first_is_item, links_are_items, one_item_a_number}

pub same_item : Item → Item → Bool
same_item a b = nat_eq a.id.0 b.id.0

same_itself : (a : Item) → same_item a a ≡ true
unfolding same_item
same_itself a = eq-eqb a.id.0 a.id.0 refl

same_number : (a b : Item) → same_item a b ≡ true → a.id.0 ≡ b.id.0
unfolding same_item
same_number a b is = eqb-true a.id.0 b.id.0 is

-- numbers of functions fix them
same_fun : (f g : FunId) → nat_eq f.0 g.0 ≡ true → f ≡ g
same_fun f g is = ap (λ n. record { 0 = n }) (eqb-true f.0 g.0 is)

same_fun_true : (f g : FunId) → f ≡ g → nat_eq f.0 g.0 ≡ true
same_fun_true f g is = eq-eqb f.0 g.0 (ap (λ h. h.0) is)

calls : Act → FunId → Bool
calls (act.Call x g es) f = nat_eq g.0 f.0
calls _ f = false

calls_true : (a : Act) (f : FunId) → Calls a f → calls a f ≡ true
unfolding calls
calls_true (act.Call x g es) f is = same_fun_true g f is
calls_true _ f is = absurd is

true_calls : (a : Act) (f : FunId) → calls a f ≡ true → Calls a f
unfolding calls
true_calls (act.Call x g es) f is = same_fun g f is
true_calls _ f is = cc

creates : Act → FunId → Bool
creates (act.Create x g e) f = nat_eq g.0 f.0
creates _ f = false

creates_true : (a : Act) (f : FunId) → Creates a f → creates a f ≡ true
unfolding creates
creates_true (act.Create x g e) f is = same_fun_true g f is
creates_true _ f is = absurd is

true_creates : (a : Act) (f : FunId) → creates a f ≡ true → Creates a f
unfolding creates
true_creates (act.Create x g e) f is = same_fun g f is
true_creates _ f is = cc

module _ (p : Typed) where
  -- whether a function begins threads
  pub begins_threads : Function → Bool
  begins_threads f = nat_eq f.id.0 p.main.0 || list_any (λ c. creates c.act f.id) (all_items p.functions)

  pub true_begins : (f : Function) → begins_threads f ≡ true → BeginsThreads p f
  unfolding begins_threads
  true_begins f is = elim (or_cases (nat_eq f.id.0 p.main.0) (list_any (λ c. creates c.act f.id) (all_items p.functions)) is) [
    | inl main ↦ inl (same_fun f.id p.main main)
    | inr made ↦ let c = found (λ c. creates c.act f.id) (all_items p.functions) made in inr (c.0, c.1, true_creates c.0.act f.id c.2)
  ]

  begins_true : (f : Function) → BeginsThreads p f → begins_threads f ≡ true
  unfolding begins_threads
  begins_true f (inl main) = or_left (nat_eq f.id.0 p.main.0) _ (same_fun_true f.id p.main main)
  begins_true f (inr (c, within, is)) = or_right (nat_eq f.id.0 p.main.0) _ (tested (λ c. creates c.act f.id) (all_items p.functions) c within (creates_true c.act f.id is))

  pub false_begins : (f : Function) → begins_threads f ≡ false → BeginsThreads p f → ⊥
  false_begins f no' is = let yes' : begins_threads f ≡ true = begins_true f is in cc

  -- whether an item that doesn't destroy is linked to another
  abbrev joins : Item → Item → Item × Item → Bool
  joins i j l = same_item l.0 j && same_item l.1 i

  pub is_back : Item → Item → Bool
  is_back i j = not (destroys j.act) && list_any (λ f. list_any (joins i j) (links_of f)) p.functions

  pub back_true : (i j : Item) → Next p j i → destroys j.act ≡ false → is_back i j ≡ true
  unfolding is_back
  back_true i j (f, c, l) harmless =
      and_from (not (destroys j.act)) _ (not_from_false (destroys j.act) harmless)
      (tested (λ f. list_any (joins i j) (links_of f)) p.functions f c
      (tested (joins i j) (links_of f) (j, i) l (and_from (same_item j j) (same_item i i) (same_itself j) (same_itself i))))

  -- whether an item calls a function that begins no thread and whose first item is one of some items
  abbrev goes_up_by : List Item → Item → Function → Bool
  goes_up_by xs c f = not (begins_threads f) && (calls c.act f.id && list_any (λ x. same_item x (first_item f)) xs)

  pub ups : List Item → List Item
  ups xs = filter (λ c. list_any (goes_up_by xs c) p.functions) (all_items p.functions)

  pub ups_true : (xs : List Item) (c : Item) (f : Function) → Contains p.functions f → Contains xs (first_item f) → begins_threads f ≡ false → IsCall p c f → Contains (ups xs) c
  unfolding ups
  ups_true xs c f within first alone call =
      kept (λ c. list_any (goes_up_by xs c) p.functions) (all_items p.functions) c call.0
      (tested (goes_up_by xs c) p.functions f within
      (and_from (not (begins_threads f)) _ (not_from_false (begins_threads f) alone)
      (and_from (calls c.act f.id) _ (calls_true c.act f.id call.1)
      (tested (λ x. same_item x (first_item f)) xs (first_item f) first (same_itself (first_item f))))))

  module _ (is : IsWellFormed p) where
    pub true_back : (i j : Item) → Contains (all_items p.functions) i → Contains (all_items p.functions) j → is_back i j ≡ true → Next p j i × (destroys j.act ≡ false)
    unfolding is_back
    true_back i j ci cj h =
        let parts = and_parts (not (destroys j.act)) (list_any (λ f. list_any (joins i j) (links_of f)) p.functions) h in
        let f = found (λ f. list_any (joins i j) (links_of f)) p.functions parts.1 in
        let l = found (joins i j) (links_of f.0) f.2 in
        let ends = and_parts (same_item l.0.0 j) (same_item l.0.1 i) l.2 in
        let next : Next p l.0.0 l.0.1 = (f.0, f.1, l.1) in
        let items = links_are_items p l.0.0 l.0.1 next in
        let from : l.0.0 ≡ j = one_item_a_number p is l.0.0 j items.0 cj (same_number l.0.0 j ends.0) in
        let to : l.0.1 ≡ i = one_item_a_number p is l.0.1 i items.1 ci (same_number l.0.1 i ends.1) in
        (subst (λ (e : Item × Item). Next p e.0 e.1) {x = l.0} {y = (j, i)} (λ k. (from k, to k)) next, not-true (destroys j.act) parts.0)

    pub true_ups : (xs : List Item) (c : Item) → ((x : Item) → Contains xs x → Contains (all_items p.functions) x) → Contains (ups xs) c → (f : Function) × Contains p.functions f × Contains xs (first_item f) × (BeginsThreads p f → ⊥) × IsCall p c f
    unfolding ups
    true_ups xs c within h =
        let here = passes (λ c. list_any (goes_up_by xs c) p.functions) (all_items p.functions) c h in
        let f = found (goes_up_by xs c) p.functions here.1 in
        let parts = and_parts (not (begins_threads f.0)) (calls c.act f.0.id && list_any (λ x. same_item x (first_item f.0)) xs) f.2 in
        let more = and_parts (calls c.act f.0.id) (list_any (λ x. same_item x (first_item f.0)) xs) parts.1 in
        let x = found (λ x. same_item x (first_item f.0)) xs more.1 in
        let first : x.0 ≡ first_item f.0 = one_item_a_number p is x.0 (first_item f.0) (within x.0 x.1) (first_is_item p f.0 f.1) (same_number x.0 (first_item f.0) x.2) in
        (f.0, f.1, subst (Contains xs) first x.1, false_begins f.0 (not-true (begins_threads f.0) parts.0), (here.0, true_calls c.act f.0.id more.0))
