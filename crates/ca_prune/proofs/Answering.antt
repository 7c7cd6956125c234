-- What stands before an item and earlier in it tells whether going back can help.
use Rattle.std.proofs.Common.{arith, ◌≡◌, ◌<◌, ◌≤◌, ◌+◌, ◌-◌, ℕ, zero, suc, Bool, true, false, List, [], ◌∷◌, ◌++◌, map, length, Option, Some, None, refl, sym, ap, ◌∙◌, subst, inl, inr, true≢false}
use Rattle.std.specs.Prelude.{Contains, get_or, ◌↔◌, slice_get, IsTrue, ◌||◌, if◌then◌else◌}
use Rattle.std.proofs.lemmas.List.Folds.{list_any_none}
use Rattle.std.proofs.lemmas.List.Elements.{All-nil, All-cons, Contains-get_or}
use Rattle.std.proofs.lemmas.Bool.{cases_lt}
use Rattle.std.proofs.lemmas.List.{get_or_append_left, get_or-append_right}
use Rattle.ca_reach.specs.Reach.{IsSet}
use Rattle.ca_tree.specs.declared.numbers.ItemId.{ItemId}
use Rattle.ca_tree.specs.declared.numbers.SiteId.{SiteId}
use Rattle.ca_model.specs.declared.tree.Act.{Act}
use Rattle.ca_model.specs.declared.tree.Item.{Item}
use Rattle.ca_model.specs.Codes.{Typed}
use Rattle.ca_model.specs.Accesses.{Kind, A_lock, Access, Site, act_accesses, all_sites, numbered}
use Rattle.ca_model.specs.Sites.{all_items}
use Rattle.ca_model.specs.Hopeless.{can_change, NoneCanChange, IsHopeless, IsHopelessAt}
use Rattle.ca_model.specs.Paths.{Before}
use Rattle.ca_model.specs.Destroying.{is_lock}
use Rattle.ca_model.specs.Plans.{IsItem, IsSite}
use Rattle.ca_model.specs.SourceRuns.{no_plan}
use Rattle.ca_model.specs.WellFormed.{IsWellFormed}
use Rattle.ca_model.specs.Bounds.{IsBounded}
use Rattle.ca_model.proofs.ApartItems.{links_are_items, one_item_a_number}
use Rattle.ca_flow.specs.declared.changes.ItemKind.{ItemKind}
use Rattle.ca_flow.specs.Changes.{any_changes, kind_of_act, kinds_of}
use Rattle.ca_flow.specs.declared.searches.Reason.{Reason}
use Rattle.ca_flow.specs.declared.searches.Reason.TheVariants as reason
use Rattle.ca_flow.proofs.SiteItems.{at_place, number_of_site}
use Rattle.ca_flow.proofs.FunctionItems.{all_numbered, number_within, place_of}
use Rattle.ca_prune.specs.Pruning.{reason_of, Tells, AreBefore, act_changes, HasBefore, HasAmong, by_number, AreBehind}
use Rattle.ca_prune.proofs.LockSites.{IsOther, Fits_test, kind_fits}

-- ---- lists of accesses

neither : (b c : Bool) → (b || c) ≡ false → (b ≡ false) × (c ≡ false)
neither true c h = absurd (cc)
neither false c h = (refl, h)

none_changes : (xs : List Access) → any_changes xs ≡ false → NoneCanChange xs
none_changes [] h = All-nil (λ a. can_change a ≡ false)
none_changes (a ∷ xs) h =
    let parts = neither (can_change a) (any_changes xs) h in
    All-cons (λ a. can_change a ≡ false) a xs parts.0 (none_changes xs parts.1)

some_changes : (xs : List Access) → any_changes xs ≡ true → NoneCanChange xs → ⊥
some_changes xs h none = true≢false (sym h ∙ list_any_none can_change xs none)

is_false : (b : Bool) → (b ≡ true → ⊥) → b ≡ false
is_false true h = absurd (h refl)
is_false false h = refl

-- ---- by the kind of a site

kind_reason : (k : Kind) → IsOther k → reason_of k ≡ reason.Local
kind_reason A_lock other = absurd other
kind_reason _ other = refl

module _ (p : Typed) (depth : ℕ) (s : Site) where
  abbrev NothingBefore : Type 0
  NothingBefore = ((j : Item) → Before p depth s.item j → NoneCanChange (act_accesses j.act)) × NoneCanChange s.earlier

  other_hopeless : (k : Kind) → IsOther k → NothingBefore → IsHopelessAt p depth s k
  other_hopeless A_lock other h = absurd other
  other_hopeless _ other h = h

  hopeless_other : (k : Kind) → IsOther k → IsHopelessAt p depth s k → NothingBefore
  hopeless_other A_lock other h = absurd other
  hopeless_other _ other h = h

  pub lock_told : s.kind ≡ A_lock → (b : Bool) → IsTrue b ↔ HasBefore p depth s.item is_lock → Tells p depth s (if b then None else Some reason.Lock)
  lock_told is true before =
      let x = before.0 refl in
      λ h. let none : (j : Item) → Before p depth s.item j → is_lock j.act ≡ false = subst (IsHopelessAt p depth s) is h in
      true≢false (sym x.2 ∙ none x.0 x.1)
  lock_told is false before =
      let none : (j : Item) → Before p depth s.item j → is_lock j.act ≡ false = λ j b. is_false (is_lock j.act) (λ lock. true≢false (sym (before.1 (j, b, lock)))) in
      (subst (IsHopelessAt p depth s) (sym is) none, ap reason_of (sym is))

  pub before_told : IsOther s.kind → HasBefore p depth s.item act_changes → IsHopeless p depth s → ⊥
  before_told other x h = some_changes (act_accesses x.0.act) x.2 ((hopeless_other s.kind other h).0 x.0 x.1)

  pub earlier_told : IsOther s.kind → (HasBefore p depth s.item act_changes → ⊥) → (b : Bool) → b ≡ any_changes s.earlier → Tells p depth s (if b then None else Some reason.Local)
  earlier_told other none true own = λ h. some_changes s.earlier (sym own) (hopeless_other s.kind other h).1
  earlier_told other none false own = (
    other_hopeless s.kind other ((λ j b. none_changes (act_accesses j.act) (is_false (act_changes j.act) (λ changes. none (j, b, changes)))), none_changes s.earlier (sym own)),
    sym (kind_reason s.kind other),
  )

-- ---- items before

pub before_is_item : (p : Typed) (depth : ℕ) (s j : Item) → Before p depth s j → Contains (all_items p.functions) j
before_is_item p depth s j h = elim h.3 [
  | inl back ↦ (links_are_items p j h.0.0 back.0).0
  | inr up ↦ up.4.0
]

-- the item of a site
one_site : (p : Typed) (n : ℕ) (a b : Site) → numbered (all_sites p) n ≡ Some a → numbered (all_sites p) n ≡ Some b → a ≡ b
one_site p n a b is also = ap (λ (o : Option Site). elim o [ None ↦ a | Some x ↦ x ]) (sym is ∙ also)

pub own_item : (p : Typed) → IsWellFormed p → (n : SiteId) (s : Site) → IsSite p s n → Contains (all_items p.functions) s.item
own_item p formed n s is = (number_of_site p no_plan formed s n is).0

pub item_at : (p : Typed) → IsWellFormed p → (n : SiteId) (i : ItemId) (a s : Site) → IsSite p a n → a.item.id ≡ i → IsSite p s n → IsItem p s.item i
item_at p formed n i a s first number is = (own_item p formed n s is, ap (λ (x : Site). x.item.id) (one_site p n.0 s a is first) ∙ number)

-- a site is a lock exactly where its item is one
pub kind_at : (p : Typed) (n : SiteId) (s : Site) (k : ItemKind) (b : Bool) → IsSite p s n → k ≡ kind_of_act s.item.act → k.is_lock ≡ b → Fits_test b s.kind
kind_at p n s k b is known test = subst (λ b. Fits_test b s.kind) (ap (λ (k : ItemKind). k.is_lock) (sym known) ∙ test) (kind_fits p n s is)

module _ (p : Typed) (formed : IsWellFormed p) (bounded : IsBounded p) where
  number_fits : (x : Item) → Contains (all_items p.functions) x → x.id.0 < 4294967296
  number_fits x own =
      let h = number_within (all_items p.functions) (all_numbered p formed) x own in
      let low : x.id.0 ≤ length (all_items p.functions) = h.1 in
      omega (arith, low, bounded.items)

  same_item : (x y : Item) → Contains (all_items p.functions) x → Contains (all_items p.functions) y → x.id ≡ y.id → x ≡ y
  same_item x y own also same = one_item_a_number p formed x y own also (ap (λ (i : ItemId). i.0) same)

  -- some item of a list of those before passes a test exactly where one before does
  pub among_before : (depth : ℕ) (s : Item) (items : List ItemId) (test : Act → Bool) → AreBefore p depth s items → HasAmong p items test ↔ HasBefore p depth s test
  among_before depth s items test are = (
    (λ h.
        let x : Item = h.0 in
        let j = (are x.id (number_fits x h.1.0)).0 h.2 in
        (x, subst (Before p depth s) (same_item j.0 x (before_is_item p depth s j.0 j.2) h.1.0 j.1) j.2, h.3)),
    (λ h.
        let own = before_is_item p depth s h.0 h.1 in
        (h.0, (own, refl), (are h.0.id (number_fits h.0 own)).1 (h.0, refl, h.1), h.2)),
  )

-- the item at a place of a list passes a test
pub found_among : (p : Typed) (items : List ItemId) (k : ℕ) (d : ItemId) (kind : ItemKind) (test : Act → Bool) → k < length items → (get_or items k d).0 < 4294967296 → ((i : ItemId) → i.0 < 4294967296 → Contains items i → (x : Item) × IsItem p x i)
    → ((x : Item) → IsItem p x (get_or items k d) → kind ≡ kind_of_act x.act) → ((a : Act) → kind ≡ kind_of_act a → test a ≡ true) → HasAmong p items test
found_among p items k d kind test lt fits are known passes =
    let listed : Contains items (get_or items k d) = Contains-get_or items k d lt in
    let x = are (get_or items k d) fits listed in
    (x.0, (x.1.0, refl), subst (Contains items) (sym x.1.1) listed, passes x.0.act (known x.0 x.1))

-- the answer for a list of those before
pub told_before : (p : Typed) → IsWellFormed p → IsBounded p → (depth : ℕ) (s : Item) (items listed : List ItemId) (test : Act → Bool) (b : Bool) → listed ≡ items → AreBefore p depth s items → IsTrue b ↔ HasAmong p listed test → IsTrue b ↔ HasBefore p depth s test
told_before p formed bounded depth s items listed test b same are told =
    let these = subst (λ (is : List ItemId). IsTrue b ↔ HasAmong p is test) same told in
    let both = among_before p formed bounded depth s items test are in
    ((λ h. both.0 (these.0 h)), (λ h. these.1 (both.1 h)))

-- ---- flags

at_place_mapped : {A B : Type 0} (h : A → B) (xs : List A) (k : ℕ) (x : A) → slice_get xs k ≡ Some x → slice_get (map h xs) k ≡ Some (h x)
at_place_mapped h [] k x at = absurd (cc)
at_place_mapped h (y ∷ xs) zero x at = ap (λ (o : Option _). elim o [ None ↦ None | Some z ↦ Some (h z) ]) at
at_place_mapped h (y ∷ xs) (suc k) x at = at_place_mapped h xs k x at

some_flag : (b c : Bool) → Some b ≡ Some c → b ≡ c
some_flag b c is = ap (λ (o : Option Bool). elim o [ None ↦ b | Some x ↦ x ]) is

-- the flag of an item
flag_of_item : (p : Typed) → IsWellFormed p → (test : ItemKind → Bool) (x : Item) → Contains (all_items p.functions) x → slice_get (by_number test (kinds_of (all_items p.functions))) x.id.0 ≡ Some (test (kind_of_act x.act))
flag_of_item p formed test x own =
    let at = place_of (all_items p.functions) x own in
    let number : x.id.0 ≡ 0 + at.0 + 1 = all_numbered p formed at.0 x at.1 in
    let place : x.id.0 ≡ suc at.0 = omega (arith, number) in
    ap (slice_get (by_number test (kinds_of (all_items p.functions)))) place
    ∙ at_place_mapped test (kinds_of (all_items p.functions)) at.0 (kind_of_act x.act) (at_place_mapped (λ (i : Item). kind_of_act i.act) (all_items p.functions) at.0 x at.1)

pub told_behind : (p : Typed) → IsWellFormed p → (depth : ℕ) (s : Item) (i : ItemId) (test : ItemKind → Bool) (flags : List Bool) (b : Bool) → Contains (all_items p.functions) s → s.id ≡ i → AreBehind p depth test flags → IsTrue b ↔ IsSet flags i.0 → IsTrue b ↔ HasBefore p depth s (λ a. test (kind_of_act a))
told_behind p formed depth s i test flags b own number are told =
    let these = subst (λ (j : ItemId). IsTrue b ↔ IsSet flags j.0) (sym number) told in
    let both = are s (own, refl) in (
      (λ h.
          let x = both.0 (these.0 h) in
          (x.0, x.1, some_flag (test (kind_of_act x.0.act)) true (sym (flag_of_item p formed test x.0 (before_is_item p depth s x.0 x.1)) ∙ x.2))),
      (λ x. these.1 (both.1 (x.0, x.1, flag_of_item p formed test x.0 (before_is_item p depth s x.0 x.1) ∙ ap (λ (c : Bool). Some c) x.2))),
    )

-- ---- all sites

pub site_there : (p : Typed) (k : ℕ) → k < length (all_sites p) → (s : Site) × IsSite p s (record { 0 = k + 1 })
site_there p k lt =
    let x = at_place (all_sites p) k lt in
    let next : suc k ≡ k + 1 = omega arith in
    (x.0, ap (numbered (all_sites p)) (sym next) ∙ x.1)

pub next_told : (T : ℕ → Option Reason → Type 0) (rs : List (Option Reason)) (r : Option Reason) (k : ℕ) → length rs ≡ k → ((n : ℕ) → n < k → T n (get_or rs n None)) → T k r → (n : ℕ) → n < k + 1 → T n (get_or (rs ++ r ∷ []) n None)
next_told T rs r k count before here n lt = elim (cases_lt n k) [
  | inl less ↦ subst (T n) (sym (get_or_append_left rs (r ∷ []) None n (omega (arith, less, count)))) (before n less)
  | inr more ↦
      let same : k ≡ n = omega (arith, more, lt) in
      subst (λ m. T m (get_or (rs ++ r ∷ []) m None)) same (subst (T k) (sym (last_one rs k count)) here)
]
  where
    last_one : (rs : List (Option Reason)) (k : ℕ) → length rs ≡ k → get_or (rs ++ r ∷ []) k None ≡ r
    last_one rs k count = get_or-append_right rs (r ∷ []) k k None count (omega arith) ∙ first k
      where
        first : (k : ℕ) → get_or (r ∷ []) (k - k) None ≡ r
        first k = let none : k - k ≡ 0 = omega arith in ap (λ j. get_or (r ∷ []) j None) none
