-- What a retry gives back.
use Rattle.std.proofs.Common.{rules, ◌≡◌, ◌≢◌, ℕ, Bool, true, false, cond, not, List, [], ◌∷◌, Option, Some, None, refl, sym, ap, ◌∙◌, subst, arith, inl, inr}
use Rattle.std.specs.Prelude.{◌⊎◌, ◌&&◌, Contains, reverse, filter}
use Rattle.std.specs.List.{AllPairs}
use Rattle.std.specs.FinMap as map
use Rattle.std.specs.FinMap.{gets}
use Rattle.std.proofs.lemmas.Bool.{and_parts, or_cases, or_left, or_right, eqb-true, eq-eqb, not-true, cases_Bool, not_from_false, and_from}
use Rattle.std.proofs.lemmas.Bool.Decides.{eqb_tells}
use Rattle.std.proofs.lemmas.List.Elements.{All-contains, All-weaker, All-filter, All-contains_itself, filter_passes}
use Rattle.std.proofs.lemmas.List.Kept.{AllPairs-filter, AllPairs-cons}
use Rattle.std.proofs.lemmas.List.Sorted.{Contains-permutation, IsPermutation-reverse, IsPermutation-sym}
use Rattle.std.specs.Ordering.{nat_cmp}
use Rattle.ca_model.specs.declared.values.Value.{Value}
use Rattle.ca_model.specs.declared.values.Value.TheVariants as v
use Rattle.ca_model.specs.declared.values.Given.{Given}
use Rattle.ca_model.specs.declared.values.Given.TheVariants as given
use Rattle.ca_model.specs.Shared.{Shared, Block, Blocks, died, insert_if, Holds, HoldsEach, give}
use Rattle.ca_model.specs.Hardened.{Saved, same_given, once, latest_first, is_part, NamesHeld}
use Rattle.ca_model.specs.ComingEntries.{gives_of, is_heap, is_held, is_owner}
use Rattle.ca_model.proofs.Cells.{get_here, get_there}
use Rattle.ca_model.proofs.Members.{in_none, in_cons, at_head, at_tail}
use Rattle.ca_model.proofs.SameLists.{head_pairs, tail_pairs, HasAll}

pub same_given_is : (g h : Given) → same_given g h ≡ true → g ≡ h
same_given_is (given.Mutex m) (given.Mutex n) e = ap (λ k. given.Mutex (record { 0 = k })) (eqb-true m.0 n.0 e)
same_given_is (given.Block a) (given.Block b) e = ap given.Block (eqb-true a b e)
same_given_is (given.Mutex m) (given.Block b) e = absurd cc
same_given_is (given.Block a) (given.Mutex n) e = absurd cc

same_given_self : (g : Given) → same_given g g ≡ true
same_given_self (given.Mutex m) = eq-eqb m.0 m.0 refl
same_given_self (given.Block b) = eq-eqb b b refl

abbrev Apart : Given → Given → Type 0
Apart g h = g ≡ h → ⊥

-- each thing stands once in the list from which a retry takes
once_apart : (gs : List Given) → AllPairs Apart (once gs)
once_apart [] = λ i j d lt within. absurd (let never : ⊥ = omega (arith, within) in never)
once_apart (g ∷ gs) =
    AllPairs-cons Apart g _ (All-weaker (λ h. not (same_given g h) ≡ true) (Apart g) (other g) _ (filter_passes (λ h. not (same_given g h)) (once gs)))
    (AllPairs-filter Apart (λ h. not (same_given g h)) (once gs) (once_apart gs))
  where
    other : (g h : Given) → not (same_given g h) ≡ true → g ≡ h → ⊥
    other g h e is = let no' : true ≡ false = sym (ap (same_given g) (sym is) ∙ same_given_self g) ∙ not-true _ e in cc

filter_in : (p : Given → Bool) (gs : List Given) (x : Given) → Contains (filter p gs) x → Contains gs x
filter_in p gs x h = All-contains (Contains gs) (filter p gs) x (All-filter p (Contains gs) gs (All-contains_itself gs)) h

kept_in : (p : Given → Bool) (g : Given) (gs : List Given) (x : Given) (b : Bool) → p g ≡ b → p x ≡ true → (g ≡ x) ⊎ Contains gs x → (Contains gs x → Contains (filter p gs) x) → Contains (cond b (g ∷ filter p gs) (filter p gs)) x
kept_in p g gs x true is e (inl same) more = subst (Contains (g ∷ filter p gs)) same (at_head g (filter p gs))
kept_in p g gs x true is e (inr c) more = at_tail g (filter p gs) x (more c)
kept_in p g gs x false is e (inl same) more = let no' : true ≡ false = sym e ∙ (ap p (sym same) ∙ is) in absurd cc
kept_in p g gs x false is e (inr c) more = more c

in_filter : (p : Given → Bool) (gs : List Given) (x : Given) → p x ≡ true → Contains gs x → Contains (filter p gs) x
in_filter p [] x e h = absurd (in_none x h)
in_filter p (g ∷ gs) x e h = kept_in p g gs x (p g) refl e (in_cons g gs x h) (in_filter p gs x e)

once_in : (gs : List Given) (x : Given) → Contains (once gs) x → Contains gs x
once_in [] x h = h
once_in (g ∷ gs) x h = elim (in_cons g _ x h) [
  | inl is ↦ subst (Contains (g ∷ gs)) is (at_head g gs)
  | inr c ↦ at_tail g gs x (once_in gs x (filter_in (λ k. not (same_given g k)) (once gs) x c))
]

in_once : (gs : List Given) (x : Given) → Contains gs x → Contains (once gs) x
in_once [] x h = h
in_once (g ∷ gs) x h = elim (in_cons g gs x h) [
  | inl is ↦ subst (Contains (once (g ∷ gs))) is (at_head g _)
  | inr c ↦ elim (cases_Bool (same_given g x)) [
    | inl is ↦ subst (Contains (once (g ∷ gs))) (same_given_is g x is) (at_head g _)
    | inr is ↦ at_tail g _ x (in_filter (λ k. not (same_given g k)) (once gs) x (not_from_false _ is) (in_once gs x c))
  ]
]

pub latest_in : (taken : List Given) (x : Given) → Contains (latest_first taken) x → Contains taken x
latest_in taken x h = Contains-permutation (reverse taken) taken x (IsPermutation-sym taken (reverse taken) (IsPermutation-reverse taken)) (once_in (reverse taken) x h)

pub in_latest : (taken : List Given) (x : Given) → Contains taken x → Contains (latest_first taken) x
in_latest taken x h = in_once (reverse taken) x (Contains-permutation taken (reverse taken) x (IsPermutation-reverse taken) h)

-- a part of a list
part_cases : (g h : Given) (gs hs : List Given) → is_part (g ∷ gs) (h ∷ hs) ≡ true → ((g ≡ h) × (is_part gs hs ≡ true)) ⊎ (is_part (g ∷ gs) hs ≡ true)
part_cases g h gs hs e = elim (or_cases (same_given g h && is_part gs hs) (is_part (g ∷ gs) hs) e) [
  | inl both ↦ let two = and_parts (same_given g h) (is_part gs hs) both in inl (same_given_is g h two.0, two.1)
  | inr rest ↦ inr rest
]

part_in : (ls gs : List Given) → is_part gs ls ≡ true → HasAll gs ls
part_in ls [] e x h = absurd (in_none x h)
part_in [] (g ∷ gs) e x h = absurd cc
part_in (l ∷ ls) (g ∷ gs) e x h = elim (part_cases g l gs ls e) [
  | inl (is, more) ↦ elim (in_cons g gs x h) [
    | inl same ↦ subst (Contains (l ∷ ls)) (sym is ∙ same) (at_head l ls)
    | inr c ↦ at_tail l ls x (part_in ls gs more x c)
  ]
  | inr more ↦ at_tail l ls x (part_in ls (g ∷ gs) more x h)
]

-- two parts of one list with the same elements
same_parts : (ls gs hs : List Given) → AllPairs Apart ls → is_part gs ls ≡ true → is_part hs ls ≡ true → HasAll gs hs → HasAll hs gs → gs ≡ hs
same_parts ls [] [] ap' p q to from = refl
same_parts ls [] (h ∷ hs) ap' p q to from = absurd (in_none h (from h (at_head h hs)))
same_parts ls (g ∷ gs) [] ap' p q to from = absurd (in_none g (to g (at_head g gs)))
same_parts [] (g ∷ gs) (h ∷ hs) ap' p q to from = absurd cc
same_parts (l ∷ ls) (g ∷ gs) (h ∷ hs) ap' p q to from =
    let later = tail_pairs Apart l ls ap' in
    let gone : (x : Given) → l ≡ x → Contains ls x → ⊥ = λ x is c. head_pairs Apart l ls x ap' c is in
    elim (part_cases g l gs ls p) [
      | inl (is, p') ↦ elim (part_cases h l hs ls q) [
        | inl (is', q') ↦
            let rest : gs ≡ hs = same_parts ls gs hs later p' q'
            (λ x c. elim (in_cons h hs x (to x (at_tail g gs x c))) [ inl e ↦ absurd (gone x (sym is' ∙ e) (part_in ls gs p' x c)) | inr d ↦ d ])
            (λ x c. elim (in_cons g gs x (from x (at_tail h hs x c))) [ inl e ↦ absurd (gone x (sym is ∙ e) (part_in ls hs q' x c)) | inr d ↦ d ]) in
            ap (λ x. x ∷ gs) (is ∙ sym is') ∙ ap (λ xs. h ∷ xs) rest
        | inr q' ↦ absurd (gone g (sym is) (part_in ls (h ∷ hs) q' g (to g (at_head g gs))))
      ]
      | inr p' ↦ elim (part_cases h l hs ls q) [
        | inl (is', q') ↦ absurd (gone h (sym is') (part_in ls (g ∷ gs) p' h (from h (at_head h hs))))
        | inr q' ↦ same_parts ls (g ∷ gs) (h ∷ hs) later p' q' to from
      ]
    ]

-- what is held after one thing was given back was held before
abbrev live_cells_of : List Value → Block
live_cells_of c = record { heap = true; live = true; cells = c }

abbrev is_live : Option Block → Bool
is_live None = false
is_live (Some b) = b.live

alive_before : (m : Blocks) (a b : ℕ) (c : List Value) (o : Option Block) → map.get m a ≡ o → map.get (insert_if m a (died o)) b ≡ Some (live_cells_of c) → map.get m b ≡ Some (live_cells_of c)
alive_before m a b c None is h = h
alive_before m a b c (Some x) is h = elim (eqb_tells b a) [
  | inl same ↦
      let dead : Block = record { heap = x.heap; live = false; cells = x.cells } in
      let no' : false ≡ true = sym (ap is_live (ap (map.get (map.insert m a dead)) same.1 ∙ get_here m a dead)) ∙ ap is_live h in
      absurd cc
  | inr other ↦ sym (get_there m a b (record { heap = x.heap; live = false; cells = x.cells }) other.1) ∙ h
]

alive_after : (m : Blocks) (a b : ℕ) (o : Option Block) → b ≢ a → map.get (insert_if m a (died o)) b ≡ map.get m b
alive_after m a b None ne = refl
alive_after m a b (Some x) ne = get_there m a b _ ne

owned_before : (m : map.FinMap nat_cmp ℕ) (a b t : ℕ) → map.get (map.remove m a) b ≡ Some t → map.get m b ≡ Some t
owned_before m a b t h = grind (gets, rules)

owned_after : (m : map.FinMap nat_cmp ℕ) (a b t : ℕ) → b ≢ a → map.get (map.remove m a) b ≡ map.get m b
owned_after m a b t ne = grind (gets, rules)

held_before : (s : Shared) (t : ℕ) (g h : Given) → Holds (give s g) t h → Holds s t h
held_before s t (given.Mutex m) (given.Mutex n) h = owned_before s.owners m.0 n.0 t h
held_before s t (given.Mutex m) (given.Block b) h = h
held_before s t (given.Block a) (given.Mutex n) h = h
held_before s t (given.Block a) (given.Block b) (k, c, is, h) = (k, c, is, alive_before s.blocks a k c (map.get s.blocks a) refl h)

abbrev block_number : Value → ℕ
block_number (v.Num n) = 0
block_number (v.Addr a) = a.block

held_after : (s : Shared) (t : ℕ) (g h : Given) → Apart g h → Holds s t h → Holds (give s g) t h
held_after s t (given.Mutex m) (given.Mutex n) ne h = owned_after s.owners m.0 n.0 t (λ e. ne (ap (λ k. given.Mutex (record { 0 = k })) (sym e))) ∙ h
held_after s t (given.Mutex m) (given.Block b) ne h = h
held_after s t (given.Block a) (given.Mutex n) ne h = h
held_after s t (given.Block a) (given.Block b) ne (k, c, is, h) =
    let same : b ≡ k = ap block_number is in
    (k, c, is, alive_after s.blocks a k (map.get s.blocks a) (λ e. ne (ap given.Block (sym (same ∙ e)))) ∙ h)

-- so each thing that is given back was held
given_held : (gs : List Given) (s : Shared) (t : ℕ) (x : Given) → HoldsEach s t gs → Contains gs x → Holds s t x
given_held [] s t x h c = absurd (in_none x c)
given_held (g ∷ gs) s t x h c = elim (in_cons g gs x c) [
  | inl is ↦ subst (Holds s t) is h.0
  | inr d ↦ held_before s t g x (given_held gs (give s g) t x h.1 d)
]

-- and things that are held can be given back one after another
held_each : (gs : List Given) (s : Shared) (t : ℕ) → AllPairs Apart gs → ((x : Given) → Contains gs x → Holds s t x) → HoldsEach s t gs
held_each [] s t ap' h = tt
held_each (g ∷ gs) s t ap' h = (
  h g (at_head g gs),
  held_each gs (give s g) t (tail_pairs Apart g gs ap') (λ x c. held_after s t g x (head_pairs Apart g gs x ap' c) (h x (at_tail g gs x c))),
)

-- two retries give back the same
pub one_list : (s : Shared) (t : ℕ) (sv : Saved) (gs hs : List Given) → is_part gs (latest_first sv.taken) ≡ true → is_part hs (latest_first sv.taken) ≡ true
    → HoldsEach s t gs → HoldsEach s t hs → NamesHeld s t gs (Some sv) → NamesHeld s t hs (Some sv) → gs ≡ hs
one_list s t sv gs hs p q h k n m = same_parts (latest_first sv.taken) gs hs (once_apart (reverse sv.taken)) p q
    (λ x c. All-contains (λ g. Holds s t g → Contains hs g) sv.taken x m (latest_in sv.taken x (part_in (latest_first sv.taken) gs p x c)) (given_held gs s t x h c))
    (λ x c. All-contains (λ g. Holds s t g → Contains gs g) sv.taken x n (latest_in sv.taken x (part_in (latest_first sv.taken) hs q x c)) (given_held hs s t x k c))

pub owner_is : (o : Option ℕ) (t : ℕ) → is_owner t o ≡ true → o ≡ Some t
owner_is None t e = absurd cc
owner_is (Some u) t e = ap Some (eqb-true u t e)

pub is_owner_so : (o : Option ℕ) (t : ℕ) → o ≡ Some t → is_owner t o ≡ true
is_owner_so o t e = ap (is_owner t) e ∙ eq-eqb t t refl

pub heap_is : (o : Option Block) → is_heap o ≡ true → (c : List Value) × (o ≡ Some (live_cells_of c))
heap_is None e = absurd cc
heap_is (Some b) e = let two = and_parts b.heap b.live e in (b.cells, ap Some (λ i. record { heap = two.0 i; live = two.1 i; cells = b.cells }))

held_is : (s : Shared) (t : ℕ) (g : Given) → is_held s t g ≡ true → Holds s t g
held_is s t (given.Mutex m) e = owner_is (map.get s.owners m.0) t e
held_is s t (given.Block b) e = let h = heap_is (map.get s.blocks b) e in (b, h.0, refl, h.1)

is_held_so : (s : Shared) (t : ℕ) (g : Given) → Holds s t g → is_held s t g ≡ true
is_held_so s t (given.Mutex m) h = is_owner_so (map.get s.owners m.0) t h
is_held_so s t (given.Block b) (k, c, is, h) = ap is_heap (ap (map.get s.blocks) (ap block_number is) ∙ h)

part_rest : (g : Given) (gs hs : List Given) → is_part gs hs ≡ true → is_part gs (g ∷ hs) ≡ true
part_rest g [] hs e = refl
part_rest g (x ∷ gs) hs e = or_right (same_given x g && is_part gs hs) (is_part (x ∷ gs) hs) e

part_more : (b : Bool) (g : Given) (gs hs : List Given) → is_part gs hs ≡ true → is_part (cond b (g ∷ gs) gs) (g ∷ hs) ≡ true
part_more true g gs hs e = or_left (same_given g g && is_part gs hs) (is_part (g ∷ gs) hs) (and_from (same_given g g) (is_part gs hs) (same_given_self g) e)
part_more false g gs hs e = part_rest g gs hs e

filter_part : (p : Given → Bool) (ls : List Given) → is_part (filter p ls) ls ≡ true
filter_part p [] = refl
filter_part p (l ∷ ls) = part_more (p l) l (filter p ls) ls (filter_part p ls)

pub gives_part : (s : Shared) (t : ℕ) (sv : Saved) → is_part (gives_of s t sv) (latest_first sv.taken) ≡ true
gives_part s t sv = filter_part (is_held s t) (latest_first sv.taken)

pub gives_held : (s : Shared) (t : ℕ) (sv : Saved) → HoldsEach s t (gives_of s t sv)
gives_held s t sv =
    held_each (gives_of s t sv) s t (AllPairs-filter Apart (is_held s t) (latest_first sv.taken) (once_apart (reverse sv.taken)))
    (λ x c. held_is s t x (All-contains (λ y. is_held s t y ≡ true) (gives_of s t sv) x (filter_passes (is_held s t) (latest_first sv.taken)) c))

pub gives_named : (s : Shared) (t : ℕ) (sv : Saved) → NamesHeld s t (gives_of s t sv) (Some sv)
gives_named s t sv =
    All-weaker (Contains sv.taken) (λ g. Holds s t g → Contains (gives_of s t sv) g)
    (λ g c h. in_filter (is_held s t) (latest_first sv.taken) g (is_held_so s t g h) (in_latest sv.taken g c))
    sv.taken (All-contains_itself sv.taken)
