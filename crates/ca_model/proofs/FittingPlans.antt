-- A plan passes one walk over the items and functions of a counted source exactly where it fits the source.
use Rattle.std.proofs.Common.{◌≡◌, ◌≤◌, ◌<◌, ℕ, zero, suc, ◌+◌, ◌-◌, Bool, true, false, not, List, [], ◌∷◌, ◌++◌, map, length, Option, Some, None, refl, sym, ap, ◌∙◌, subst, inl, inr, arith, length-append}
use Rattle.std.specs.Prelude.{Contains, slice_get, IsTrue, ◌↔◌}
use Rattle.std.specs.List.Sorted.{IsStrictlyIncreasing}
use Rattle.std.proofs.lemmas.Bool.{and_parts, and_from}
use Rattle.ca_tree.specs.declared.numbers.FunId.{FunId}
use Rattle.ca_tree.specs.declared.numbers.ItemId.{ItemId}
use Rattle.ca_model.specs.declared.plan.Plan.{Plan}
use Rattle.ca_model.specs.declared.tree.Item.{Item}
use Rattle.ca_model.specs.declared.tree.Function.{Function}
use Rattle.ca_model.specs.Codes.{Typed}
use Rattle.ca_model.specs.Sites.{items_of, all_items, act_sites}
use Rattle.ca_model.specs.Accesses.{Site, act_accesses, sites_after, sites_in, all_sites, numbered}
use Rattle.ca_model.specs.Destroying.{destroys, is_last}
use Rattle.ca_model.specs.Plans.{can_acquire, Fits}
use Rattle.ca_model.specs.Fitting.{Left, can_save, behind_item, begin_function, behind_items, behind_functions, left, ascending_to}
use Rattle.ca_model.proofs.Numbers.{act_count}
use Rattle.ca_model.proofs.SiteNumbers.{count_after}
use Rattle.ca_model.proofs.NumberedLists.{Ascends}
use Rattle.ca_model.proofs.PlacedItems.{item_number}
use Rattle.ca_model.proofs.CountedKnowns.{function_number}
use Rattle.ca_model.proofs.TypedCounts.{IsCounted}
use Rattle.ca_model.proofs.PassedLists.{passed, passed_append, Finds, found, number_above, all_pass, Rises, each_above}
use Rattle.ca_model.proofs.RisingNumbers.{rises_by, increasing, site_number, rises_to, to_last}

-- the lists are those of items and functions in their order, and there are as many sites
abbrev passes_behind : Typed → Plan → Option ℕ → Type 0
passes_behind p plan None = ⊥
passes_behind p plan (Some n) = behind_functions (left plan.saves_after plan.acquires plan.saves_at_entry n) p.functions ≡ left [] [] [] 0

abbrev Passes : Typed → Plan → Type 0
Passes p plan = (plan.limit ≤ 10000) × passes_behind p plan (ascending_to 0 plan.sites)

abbrev item_key : ItemId → ℕ
item_key i = i.0

abbrev function_key : FunId → ℕ
function_key f = f.0

abbrev saved : List ItemId → List Item → List ItemId
saved = passed item_key item_number (λ i. can_save i.act)

abbrev acquired : List ItemId → List Item → List ItemId
acquired = passed item_key item_number (λ i. can_acquire i.act)

abbrev entered : List FunId → List Function → List FunId
entered = passed function_key function_number (λ f. true)

-- ---- the walk, list by list

saves_in : (l : Left) (is : List Item) → (behind_items l is).saves ≡ saved l.saves is
saves_in l [] = refl
saves_in l (i ∷ is) = saves_in (behind_item l i) is

acquires_in : (l : Left) (is : List Item) → (behind_items l is).acquires ≡ acquired l.acquires is
acquires_in l [] = refl
acquires_in l (i ∷ is) = acquires_in (behind_item l i) is

entries_in : (l : Left) (is : List Item) → (behind_items l is).entries ≡ l.entries
entries_in l [] = refl
entries_in l (i ∷ is) = entries_in (behind_item l i) is

sites_of : (i : Item) → length (sites_after i [] (act_accesses i.act)) ≡ act_sites i.act
sites_of i = count_after i [] (act_accesses i.act) ∙ act_count i.act

sites_left : (l : Left) (is : List Item) → (behind_items l is).sites ≡ l.sites - length (sites_in is)
sites_left l [] = omega arith
sites_left l (i ∷ is) =
    let rest = sites_left (behind_item l i) is in
    let here = sites_of i in
    let both = length-append (sites_after i [] (act_accesses i.act)) (sites_in is) in
    omega arith

more_sites : (is js : List Item) → length (sites_in (is ++ js)) ≡ length (sites_in is) + length (sites_in js)
more_sites [] js = omega arith
more_sites (i ∷ is) js =
    let rest = more_sites is js in
    let whole = length-append (sites_after i [] (act_accesses i.act)) (sites_in (is ++ js)) in
    let first = length-append (sites_after i [] (act_accesses i.act)) (sites_in is) in
    omega arith

abbrev behind_one : Left → Function → Left
behind_one l f = behind_items (begin_function l f.id) (items_of f)

saves_behind : (l : Left) (fs : List Function) → (behind_functions l fs).saves ≡ saved l.saves (all_items fs)
saves_behind l [] = refl
saves_behind l (f ∷ fs) =
    saves_behind (behind_one l f) fs ∙ ap (λ ks. saved ks (all_items fs)) (saves_in (begin_function l f.id) (items_of f)) ∙ sym (passed_append item_key item_number (λ i. can_save i.act) l.saves (items_of f) (all_items fs))

acquires_behind : (l : Left) (fs : List Function) → (behind_functions l fs).acquires ≡ acquired l.acquires (all_items fs)
acquires_behind l [] = refl
acquires_behind l (f ∷ fs) =
    acquires_behind (behind_one l f) fs ∙ ap (λ ks. acquired ks (all_items fs)) (acquires_in (begin_function l f.id) (items_of f))
    ∙ sym (passed_append item_key item_number (λ i. can_acquire i.act) l.acquires (items_of f) (all_items fs))

entries_behind : (l : Left) (fs : List Function) → (behind_functions l fs).entries ≡ entered l.entries fs
entries_behind l [] = refl
entries_behind l (f ∷ fs) = entries_behind (behind_one l f) fs ∙ ap (λ ks. entered ks fs) (entries_in (begin_function l f.id) (items_of f))

sites_behind : (l : Left) (fs : List Function) → (behind_functions l fs).sites ≡ l.sites - length (sites_in (all_items fs))
sites_behind l [] = omega arith
sites_behind l (f ∷ fs) =
    let rest = sites_behind (behind_one l f) fs in
    let here = sites_left (begin_function l f.id) (items_of f) in
    let both = more_sites (items_of f) (all_items fs) in
    omega arith

-- ---- sites by their numbers

within : {A : Type 0} (xs : List A) (k : ℕ) (x : A) → slice_get xs k ≡ Some x → k < length xs
within [] k x h = absurd cc
within (y ∷ xs) zero x h = omega arith
within (y ∷ xs) (suc k) x h = let rest = within xs k x h in omega arith

there : {A : Type 0} (xs : List A) (k : ℕ) → k < length xs → (x : A) × (slice_get xs k ≡ Some x)
there [] k h = absurd (omega arith)
there (y ∷ xs) zero h = (y, refl)
there (y ∷ xs) (suc k) h = there xs k (omega arith)

number_within : (ss : List Site) (n : ℕ) (s : Site) → numbered ss n ≡ Some s → (1 ≤ n) × (n ≤ length ss)
number_within ss zero s h = absurd cc
number_within ss (suc n) s h = let lt = within ss n s h in (omega arith, omega arith)

number_there : (ss : List Site) (n : ℕ) → 1 ≤ n → n ≤ length ss → (s : Site) × (numbered ss n ≡ Some s)
number_there ss zero lower upper = absurd (omega arith)
number_there ss (suc n) lower upper = there ss n (omega arith)

-- ---- both ways

not_true : (b : Bool) → not b ≡ true → b ≡ false
not_true true h = absurd cc
not_true false h = refl

nothing_left : {K X : Type 0} (key : K → ℕ) (number : X → ℕ) (test : X → Bool) {n m : ℕ} {xs : List X} → Ascends number n xs m → (ks : List K) → IsStrictlyIncreasing (map key ks)
    → ((k : K) → Contains ks k → Finds key number test xs k) → passed key number test ks xs ≡ []
nothing_left key number test {n} ascends ks rise each =
    all_pass key number test ascends ks
    (rises_by key n ks rise (λ k c. let f = each k c in let low = number_above key number test ascends f.0 f.1 in let same = f.2 in omega arith)) each

abbrev item_id : ℕ → ItemId
item_id n = record { 0 = n }

abbrev fun_id : ℕ → FunId
fun_id n = record { 0 = n }

module _ (p : Typed) (h : IsCounted p) (plan : Plan) where
  abbrev at_first : ℕ → Left
  at_first n = left plan.saves_after plan.acquires plan.saves_at_entry n

  fits_behind : (n : ℕ) → plan.limit ≤ 10000 → ascending_to 0 plan.sites ≡ Some n → behind_functions (at_first n) p.functions ≡ left [] [] [] 0 → Fits p plan
  fits_behind n limit last done =
      let saves = found item_key item_number (λ i. can_save i.act) h.items_ascend.1 plan.saves_after (sym (saves_behind (at_first n) p.functions) ∙ ap (λ (l : Left). l.saves) done) in
      let acquires = found item_key item_number (λ i. can_acquire i.act) h.items_ascend.1 plan.acquires (sym (acquires_behind (at_first n) p.functions) ∙ ap (λ (l : Left). l.acquires) done) in
      let entries = found function_key function_number (λ f. true) h.functions_ascend.1 plan.saves_at_entry (sym (entries_behind (at_first n) p.functions) ∙ ap (λ (l : Left). l.entries) done) in
      let sites = rises_to 0 plan.sites n last in
      let enough : n - length (all_sites p) ≡ 0 = sym (sites_behind (at_first n) p.functions) ∙ ap (λ (l : Left). l.sites) done in
      record {
        limit = limit;
        saves_ascend = increasing item_key 1 plan.saves_after saves.0;
        entries_ascend = increasing function_key 0 plan.saves_at_entry entries.0;
        sites_ascend = increasing site_number 1 plan.sites sites.rises;
        acquires_ascend = increasing item_key 1 plan.acquires acquires.0;
        saves = λ i c.
            let (x, at, is, tests) = saves.1 i c in
            let parts = and_parts (destroys x.act) (not (is_last x.act)) tests in
            (x, (at, ap item_id is), parts.0, not_true (is_last x.act) parts.1);
        entries = λ f c. let (x, at, is, tests) = entries.1 f c in (x, (at, ap fun_id is));
        sites = λ s c.
            let lower = each_above site_number 1 plan.sites sites.rises s c in
            let upper = sites.each s c in
            number_there (all_sites p) s.0 (omega arith) (omega arith);
        acquires = λ i c. let (x, at, is, tests) = acquires.1 i c in (x, (at, ap item_id is), tests);
      }

  fits_by_passing : Passes p plan → Fits p plan
  fits_by_passing passes = by_last (ascending_to 0 plan.sites) refl passes.1
    where
      by_last : (o : Option ℕ) → ascending_to 0 plan.sites ≡ o → passes_behind p plan o → Fits p plan
      by_last None last done = absurd done
      by_last (Some n) last done = fits_behind n passes.0 last done

  passes_by_fitting : Fits p plan → Passes p plan
  passes_by_fitting fits =
      let sites : Rises site_number 1 plan.sites = rises_by site_number 1 plan.sites fits.sites_ascend (λ s c. let (x, at) = fits.sites s c in (number_within (all_sites p) s.0 x at).0) in
      let last = to_last 0 plan.sites sites in
      let n : ℕ = last.0 in
      let enough : n ≤ length (all_sites p) = elim last.2 [
        | inl none ↦ omega arith
        | inr (s, c, is) ↦ let (x, at) = fits.sites s c in let few = (number_within (all_sites p) s.0 x at).1 in omega arith
      ] in
      let saves_find : (i : ItemId) → Contains plan.saves_after i → Finds item_key item_number (λ i. can_save i.act) (all_items p.functions) i = λ i c.
      let (x, at, destroys_it, goes_on) = fits.saves i c in
      (x, at.0, ap item_key at.1, and_from (destroys x.act) (not (is_last x.act)) destroys_it (ap not goes_on)) in
      let acquires_find : (i : ItemId) → Contains plan.acquires i → Finds item_key item_number (λ i. can_acquire i.act) (all_items p.functions) i = λ i c.
      let (x, at, tests) = fits.acquires i c in
      (x, at.0, ap item_key at.1, tests) in
      let entries_find : (f : FunId) → Contains plan.saves_at_entry f → Finds function_key function_number (λ f. true) p.functions f = λ f c. let (x, at) = fits.entries f c in (x, at.0, ap function_key at.1, refl) in
      let saves : (behind_functions (at_first n) p.functions).saves ≡ [] =
      saves_behind (at_first n) p.functions ∙ nothing_left item_key item_number (λ i. can_save i.act) h.items_ascend.1 plan.saves_after fits.saves_ascend saves_find in
      let acquires : (behind_functions (at_first n) p.functions).acquires ≡ [] =
      acquires_behind (at_first n) p.functions ∙ nothing_left item_key item_number (λ i. can_acquire i.act) h.items_ascend.1 plan.acquires fits.acquires_ascend acquires_find in
      let entries : (behind_functions (at_first n) p.functions).entries ≡ [] =
      entries_behind (at_first n) p.functions ∙ nothing_left function_key function_number (λ f. true) h.functions_ascend.1 plan.saves_at_entry fits.entries_ascend entries_find in
      let none : (behind_functions (at_first n) p.functions).sites ≡ 0 = let left_over = sites_behind (at_first n) p.functions in omega arith in
      (fits.limit, subst (passes_behind p plan) (sym last.1) (λ i. left (saves i) (acquires i) (entries i) (none i)))

-- ---- what the walk answers

pub no_last : (p : Typed) → IsCounted p → (plan : Plan) → ascending_to 0 plan.sites ≡ None → Fits p plan → ⊥
no_last p h plan none fits = subst (passes_behind p plan) none (passes_by_fitting p h plan fits).1

pub told_by_rest : (p : Typed) → IsCounted p → (plan : Plan) (n : ℕ) (b : Bool) (l : Left) → plan.limit ≤ 10000 → ascending_to 0 plan.sites ≡ Some n
    → l ≡ behind_functions (left plan.saves_after plan.acquires plan.saves_at_entry n) p.functions → IsTrue b ↔ (l ≡ left [] [] [] 0) → IsTrue b ↔ Fits p plan
told_by_rest p h plan n b l limit last is done = (
  λ t. fits_behind p h plan n limit last (sym is ∙ done.0 t),
  λ fits. done.1 (is ∙ subst (passes_behind p plan) last (passes_by_fitting p h plan fits).1),
)
