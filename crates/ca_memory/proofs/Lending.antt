-- Mutexes that are given back for a while.
use Rattle.std.proofs.Common.{◌≡◌, ◌≤◌, ◌<◌, ℕ, suc, List, [], ◌∷◌, ◌++◌, length, Option, Some, None, refl, sym, ap, ◌∙◌, subst, arith, take, rules, inl, inr}
use Rattle.std.specs.Prelude.{slice_get, nat_lt, IfSome, IfNone}
use Rattle.std.specs.Ordering.{nat_cmp}
use Rattle.std.specs.FinMap as map
use Rattle.std.specs.FinMap.{gets, same_map, nat_cmp-IsAntisymmetric}
use Rattle.std.specs.Cmp.{nat_cmp_total}
use Rattle.std.proofs.lemmas.Bool.{cond-true, lt-ltb, cases_order}
use Rattle.ca_tree.specs.declared.numbers.MutexId.{MutexId}
use Rattle.ca_model.specs.declared.values.Given.{Given}
use Rattle.ca_model.specs.declared.values.Given.TheVariants as given
use Rattle.ca_model.proofs.Law.{get_one}
use Rattle.ca_memory.specs.declared.owners.MutexNotHeld.{MutexNotHeld}
use Rattle.ca_memory.specs.Mutexes.{Mutexes}
use Rattle.ca_memory.specs.GivenBack.{IsMutexHeld, AreMutexesHeld, IsFirstNoMutex, owners_without, owners_without_all}
use Rattle.ca_memory.specs.Hidden.{owners_with, owners_with_all}
use Rattle.ca_memory.proofs.Hiding.{one_more, take_all}

given_on : (o : Mutexes) (gs : List Given) (g : Given) → owners_without_all o (gs ++ g ∷ []) ≡ owners_without (owners_without_all o gs) g
given_on o [] g = refl
given_on o (h ∷ gs) g = given_on (owners_without o h) gs g

were_on : (o : Mutexes) (t : ℕ) (gs : List Given) (g : Given) → AreMutexesHeld o t gs → IsMutexHeld (owners_without_all o gs) t g → AreMutexesHeld o t (gs ++ g ∷ [])
were_on o t [] g were is = (is, tt)
were_on o t (h ∷ gs) g were is = (were.0, were_on (owners_without o h) t gs g were.1 is)

with_on : (o : Mutexes) (t : ℕ) (gs : List Given) (g : Given) → owners_with_all o t (gs ++ g ∷ []) ≡ owners_with_all (owners_with o t g) t gs
with_on o t [] g = refl
with_on o t (h ∷ gs) g = ap (λ x. owners_with x t h) (with_on o t gs g)

-- a turn of each loop
pub record GivenTo (old new : Mutexes) (t : ℕ) (things : List Given) (k : ℕ) : Type 0 where
  pub within : k ≤ length things
  pub were : AreMutexesHeld old t (take k things)
  pub given : new ≡ owners_without_all old (take k things)

pub given_next : (old mid new : Mutexes) (t : ℕ) (things : List Given) (k n : ℕ) (g : Given) → GivenTo old mid t things k → slice_get things k ≡ Some g → n ≡ suc k → k < length things
    → IsMutexHeld mid t g × (new ≡ owners_without mid g) → GivenTo old new t things n
given_next old mid new t things k n g to at is lt turn =
    let longer = one_more things k n g at is in record {
      within = omega (arith, is, lt);
      were = subst (AreMutexesHeld old t) (sym longer) (were_on old t (take k things) g to.were (subst (λ o. IsMutexHeld o t g) to.given turn.0));
      given = turn.1 ∙ (ap (λ o. owners_without o g) to.given ∙ (sym (given_on old (take k things) g) ∙ ap (owners_without_all old) (sym longer)));
    }

pub taken_next : (old mid new : Mutexes) (t : ℕ) (things : List Given) (k n : ℕ) (g : Given) → owners_with_all mid t (take n things) ≡ owners_with_all old t things → slice_get things k ≡ Some g → n ≡ suc k
    → new ≡ owners_with mid t g → owners_with_all new t (take k things) ≡ owners_with_all old t things
taken_next old mid new t things k n g so at is turn =
    ap (λ o. owners_with_all o t (take k things)) turn ∙ (sym (with_on mid t (take k things) g) ∙ (ap (owners_with_all mid t) (sym (one_more things k n g at is)) ∙ so))

-- what is given back and taken again is as before
again : (m : map.FinMap nat_cmp ℕ) (k t : ℕ) → map.get m k ≡ Some t → map.insert (map.remove m k) k t ≡ m
again m k t at = same_map nat_cmp_total nat_cmp-IsAntisymmetric _ _ (λ q. grind (gets, rules, at))

with_thing : (o : Mutexes) (t : ℕ) (g : Given) → IsMutexHeld o t g → owners_with (owners_without o g) t g ≡ o
with_thing o t (given.Mutex n) held =
    cond-true (nat_lt n.0 o.count) (record { count = o.count; owners = map.insert (map.remove o.owners n.0) n.0 t }) (record { count = o.count; owners = map.remove o.owners n.0 }) (lt-ltb n.0 o.count held.0)
    ∙ ap (λ m. record { count = o.count; owners = m }) (again o.owners n.0 t held.1)
with_thing o t (given.Block b) held = refl

taken_again : (o : Mutexes) (t : ℕ) (gs : List Given) → AreMutexesHeld o t gs → owners_with_all (owners_without_all o gs) t gs ≡ o
taken_again o t [] were = refl
taken_again o t (g ∷ gs) were = ap (λ x. owners_with x t g) (taken_again (owners_without o g) t gs were.1) ∙ with_thing o t g were.0

pub unchanged : (old mid new : Mutexes) (t : ℕ) (gs : List Given) → AreMutexesHeld old t gs → mid ≡ owners_without_all old gs → new ≡ owners_with_all mid t gs → new ≡ old
unchanged old mid new t gs were given so = so ∙ (ap (λ o. owners_with_all o t gs) given ∙ taken_again old t gs were)

pub all_found : (old : Mutexes) (t : ℕ) (gs : List Given) (k : ℕ) → AreMutexesHeld old t (take k gs) → length gs ≤ k → AreMutexesHeld old t gs
all_found old t gs k were le = subst (AreMutexesHeld old t) (take_all gs k le) were

at_end : {A : Type 0} (xs : List A) (k : ℕ) → ((x : A) → slice_get xs k ≡ Some x → ⊥) → length xs ≤ k
at_end xs k none = elim (cases_order k (length xs)) [
  | inl e ↦ omega (arith, e)
  | inr (inl lt) ↦ let one = get_one xs k lt in absurd (none one.0 one.1)
  | inr (inr gt) ↦ omega (arith, gt)
]

thing_gone : (o : Mutexes) (t : ℕ) (g : Given) → (IsMutexHeld o t g → ⊥) → (m : MutexId) × (g ≡ given.Mutex m)
thing_gone o t (given.Mutex m) gone = (m, refl)
thing_gone o t (given.Block b) gone = absurd (gone tt)

-- what the mutex at the first place without one that is held says
abbrev pub AtPlace : List Given → ℕ → Mutexes → MutexNotHeld → Type 0
AtPlace gs k mid n = (n.place ≡ k) × (slice_get gs k ≡ Some (given.Mutex n.mutex)) × (n.owner ≡ map.get mid.owners n.mutex.0)

pub none_found : (old mid : Mutexes) (t : ℕ) (gs : List Given) (k : ℕ) (r : Option MutexNotHeld) → AreMutexesHeld old t (take k gs) → ((g : Given) → slice_get gs k ≡ Some g → IsMutexHeld mid t g → ⊥)
    → IfNone r ((m : MutexId) → slice_get gs k ≡ Some (given.Mutex m) → ⊥) → IfNone r (AreMutexesHeld old t gs)
none_found old mid t gs k (Some n) were first h = tt
none_found old mid t gs k None were first h =
    all_found old t gs k were (at_end gs k (λ g at. let m = thing_gone mid t g (first g at) in h m.0 (at ∙ ap Some m.1)))

pub same_count : (o : Mutexes) (gs : List Given) → (owners_without_all o gs).count ≡ o.count
same_count o [] = refl
same_count o (given.Mutex m ∷ gs) = same_count (owners_without o (given.Mutex m)) gs
same_count o (given.Block b ∷ gs) = same_count o gs

pub some_found : (old mid : Mutexes) (t : ℕ) (gs : List Given) (k : ℕ) (r : Option MutexNotHeld) → AreMutexesHeld old t (take k gs) → mid ≡ owners_without_all old (take k gs)
    → ((g : Given) → slice_get gs k ≡ Some g → IsMutexHeld mid t g → ⊥) → IfSome r (AtPlace gs k mid) → IfSome r (λ n. IsFirstNoMutex old t gs n.place n.mutex n.owner)
some_found old mid t gs k None were given' first h = tt
some_found old mid t gs k (Some n) were given' first h =
    let place = h.0 in
    let m = n.mutex.0 in
    record {
      at = ap (slice_get gs) place ∙ h.1;
      before = subst (λ j. AreMutexesHeld old t (take j gs)) (sym place) were;
      owned = ap (λ j. map.get (owners_without_all old (take j gs)).owners m) place ∙ (ap (λ (o : Mutexes). map.get o.owners m) (sym given') ∙ sym h.2);
      gone = λ lt is. first (given.Mutex n.mutex) h.1 (subst (λ c. m < c) (sym (ap (λ (o : Mutexes). o.count) given' ∙ same_count old (take k gs))) lt, sym h.2 ∙ is);
    }
