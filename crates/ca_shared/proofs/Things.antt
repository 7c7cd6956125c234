-- Things that are given back one after another, by blocks and by mutexes.
use Rattle.std.proofs.Common.{◌≡◌, ◌<◌, ℕ, zero, suc, Bool, true, false, List, [], ◌∷◌, Option, Some, None, refl, sym, ap, ◌∙◌, take}
use Rattle.std.specs.Prelude.{slice_get, nat_lt, ◌==◌, if◌then◌else◌}
use Rattle.std.specs.FinMap as map
use Rattle.std.proofs.lemmas.Bool.{cond-true, cond-false, lt-ltb, ltb-true, eq-eqb, eqb-true, false_from_ne_true}
use Rattle.ca_tree.specs.declared.numbers.MutexId.{MutexId}
use Rattle.ca_model.specs.declared.values.Given.{Given}
use Rattle.ca_model.specs.declared.values.Given.TheVariants as given
use Rattle.ca_model.specs.Shared.{Shared, Blocks, give, give_all, IsHeapStart}
use Rattle.ca_model.specs.ComingEntries.{is_heap}
use Rattle.ca_model.proofs.Retries.{heap_is}
use Rattle.ca_memory.specs.Zeros.{start_of}
use Rattle.ca_memory.specs.Mutexes.{Mutexes}
use Rattle.ca_memory.specs.GivenBack.{IsBlockHeld, IsMutexHeld, AreBlocksHeld, AreMutexesHeld, IsFirstNoBlock, IsFirstNoMutex, blocks_without, owners_without, blocks_without_all, owners_without_all}
use Rattle.ca_memory.proofs.Hiding.{held_so}
use Rattle.ca_memory.proofs.Lending.{same_count}
use Rattle.ca_model.proofs.Law.{one_of}
use Rattle.ca_shared.specs.declared.refusals.Illegal.{Illegal}
use Rattle.ca_shared.specs.declared.refusals.Illegal.TheVariants as no
use Rattle.ca_shared.specs.declared.phase.Phase.{Phase}
use Rattle.ca_shared.specs.declared.threads.Progress.{Progress}
use Rattle.ca_shared.specs.Refusals.{bad, if_mutex, no_mutex, of_owner, of_thing, of_things}
use Rattle.ca_shared.specs.Kept.{shared_of}

module _ (output : List ℕ) (threads : List Progress) (p : Phase) (t : ℕ) where
  abbrev S : Blocks → Mutexes → Shared
  S b o = shared_of b o output threads p

  pub gives : (b : Blocks) (o : Mutexes) (g : Given) → give (S b o) g ≡ S (blocks_without b g) (owners_without o g)
  gives b o (given.Mutex m) = refl
  gives b o (given.Block k) = refl

  pub gives_all : (b : Blocks) (o : Mutexes) (gs : List Given) → give_all (S b o) gs ≡ S (blocks_without_all b gs) (owners_without_all o gs)
  gives_all b o [] = refl
  gives_all b o (g ∷ gs) = ap (λ s. give_all s gs) (gives b o g) ∙ gives_all (blocks_without b g) (owners_without o g) gs

  held_passes : (b : Blocks) (o : Mutexes) (g : Given) → IsBlockHeld b g → IsMutexHeld o t g → of_thing (S b o) t g ≡ None
  held_passes b o (given.Mutex m) block mutex =
      cond-true (nat_lt m.0 o.count) (of_owner t (map.get o.owners m.0)) (Some (no.NoMutex o.count)) (lt-ltb m.0 o.count mutex.0)
      ∙ (ap (of_owner t) mutex.1 ∙ cond-true (t == t) None (Some (no.OwnerIs (Some t))) (eq-eqb t t refl))
  held_passes b o (given.Block k) block mutex = cond-true (is_heap (map.get b k)) None (Some (bad (start_of k))) (held_so b k block)

  abbrev next : Option Illegal → Option Illegal → Option Illegal
  next o more = elim o [ Some why ↦ Some why | None ↦ more ]

  pub passes : (b : Blocks) (o : Mutexes) (gs : List Given) → AreBlocksHeld b gs → AreMutexesHeld o t gs → of_things (S b o) t gs ≡ None
  passes b o [] blocks mutexes = refl
  passes b o (g ∷ gs) blocks mutexes =
      ap (λ x. next x (of_things (give (S b o) g) t gs)) (held_passes b o g blocks.0 mutexes.0)
      ∙ (ap (λ s. of_things s t gs) (gives b o g) ∙ passes (blocks_without b g) (owners_without o g) gs blocks.1 mutexes.1)

  pub first : (b : Blocks) (o : Mutexes) (gs : List Given) (k : ℕ) (g : Given) (why : Illegal) → slice_get gs k ≡ Some g → AreBlocksHeld b (take k gs) → AreMutexesHeld o t (take k gs)
      → of_thing (S (blocks_without_all b (take k gs)) (owners_without_all o (take k gs))) t g ≡ Some why → of_things (S b o) t gs ≡ Some why
  first b o [] k g why at blocks mutexes is = absurd cc
  first b o (h ∷ gs) zero g why at blocks mutexes is =
      let same : h ≡ g = one_of h g at in
      ap (λ x. next x (of_things (give (S b o) h) t gs)) (ap (of_thing (S b o) t) same ∙ is)
  first b o (h ∷ gs) (suc k) g why at blocks mutexes is =
      ap (λ x. next x (of_things (give (S b o) h) t gs)) (held_passes b o h blocks.0 mutexes.0)
      ∙ (ap (λ s. of_things s t gs) (gives b o h) ∙ first (blocks_without b h) (owners_without o h) gs k g why at blocks.1 mutexes.1 is)

  -- a block that can't be given back
  block_gone : (b : Blocks) (o : Mutexes) (k : ℕ) → (IsHeapStart b (start_of k) → ⊥) → of_thing (S b o) t (given.Block k) ≡ Some (bad (start_of k))
  block_gone b o k gone = cond-false (is_heap (map.get b k)) None (Some (bad (start_of k))) (false_from_ne_true (is_heap (map.get b k)) (λ e. let h = heap_is (map.get b k) e in gone (k, h.0, refl, h.1)))

  -- a mutex that can't
  not_owner : (owner : Option ℕ) → (owner ≡ Some t → ⊥) → of_owner t owner ≡ Some (no.OwnerIs owner)
  not_owner None gone = refl
  not_owner (Some u) gone = cond-false (u == t) None (Some (no.OwnerIs (Some u))) (false_from_ne_true (u == t) (λ e. gone (ap Some (eqb-true u t e))))

  mutex_gone : (b : Blocks) (o : Mutexes) (n : ℕ) (m : MutexId) (owner : Option ℕ) → o.count ≡ n → map.get o.owners m.0 ≡ owner → (m.0 < n → owner ≡ Some t → ⊥)
      → of_thing (S b o) t (given.Mutex m) ≡ Some (no_mutex n m owner)
  mutex_gone b o n m owner count is gone = ap (λ c. if_mutex c m (of_owner t (map.get o.owners m.0))) count ∙ (ap (λ x. if_mutex n m (of_owner t x)) is ∙ by_test (nat_lt m.0 n) refl)
    where
      by_test : (q : Bool) → nat_lt m.0 n ≡ q → (if q then of_owner t owner else Some (no.NoMutex n)) ≡ Some (if q then no.OwnerIs owner else no.NoMutex n)
      by_test true e = not_owner owner (gone (ltb-true m.0 n e))
      by_test false e = refl

  pub front_blocks : (b : Blocks) (gs : List Given) (k : ℕ) → AreBlocksHeld b gs → AreBlocksHeld b (take k gs)
  front_blocks b [] zero h = tt
  front_blocks b [] (suc k) h = tt
  front_blocks b (g ∷ gs) zero h = tt
  front_blocks b (g ∷ gs) (suc k) h = (h.0, front_blocks (blocks_without b g) gs k h.1)

  longer : (s : Shared) (gs : List Given) (k : ℕ) (why : Illegal) → of_things s t (take k gs) ≡ Some why → of_things s t gs ≡ Some why
  longer s [] zero why is = is
  longer s [] (suc k) why is = is
  longer s (g ∷ gs) zero why is = absurd cc
  longer s (g ∷ gs) (suc k) why is = by_first (of_thing s t g) is (longer (give s g) gs k why)
    where
      by_first : (x : Option Illegal) → next x (of_things (give s g) t (take k gs)) ≡ Some why → (of_things (give s g) t (take k gs) ≡ Some why → of_things (give s g) t gs ≡ Some why)
          → next x (of_things (give s g) t gs) ≡ Some why
      by_first None e more = more e
      by_first (Some y) e more = e

  -- the first of them all
  pub is_block : (b : Blocks) (o : Mutexes) (gs : List Given) (k n : ℕ) → IsFirstNoBlock b gs k n → AreMutexesHeld o t (take k gs) → of_things (S b o) t gs ≡ Some (bad (start_of n))
  is_block b o gs k n f mutexes = first b o gs k (given.Block n) _ f.at f.before mutexes (block_gone (blocks_without_all b (take k gs)) (owners_without_all o (take k gs)) n f.gone)

  pub is_mutex : (b : Blocks) (o : Mutexes) (gs : List Given) (k : ℕ) (m : MutexId) (owner : Option ℕ) → IsFirstNoMutex o t gs k m owner → AreBlocksHeld b gs → of_things (S b o) t gs ≡ Some (no_mutex o.count m owner)
  is_mutex b o gs k m owner f blocks =
      first b o gs k (given.Mutex m) _ f.at (front_blocks b gs k blocks) f.before (mutex_gone (blocks_without_all b (take k gs)) (owners_without_all o (take k gs)) o.count m owner (same_count o (take k gs)) f.owned f.gone)

  pub is_mutex_before : (b : Blocks) (o : Mutexes) (gs : List Given) (j k n : ℕ) (m : MutexId) (owner : Option ℕ) → IsFirstNoBlock b gs k n → IsFirstNoMutex o t (take k gs) j m owner
      → of_things (S b o) t gs ≡ Some (no_mutex o.count m owner)
  is_mutex_before b o gs j k n m owner block f = longer (S b o) gs k _ (is_mutex b o (take k gs) j m owner f block.before)

  -- and where none of them is refused, all are held
  held_both : (b : Blocks) (o : Mutexes) (g : Given) → of_thing (S b o) t g ≡ None → IsBlockHeld b g × IsMutexHeld o t g
  held_both b o (given.Mutex m) is = (tt, by_test (nat_lt m.0 o.count) refl is)
    where
      by_owner : (owner : Option ℕ) → of_owner t owner ≡ None → owner ≡ Some t
      by_owner None e = absurd cc
      by_owner (Some u) e = ap Some (eqb-true u t (passed (u == t) (no.OwnerIs (Some u)) e))
        where
          passed : (q : Bool) (why : Illegal) → (if q then None else Some why) ≡ None → q ≡ true
          passed true why e = refl
          passed false why e = absurd cc

      by_test : (q : Bool) → nat_lt m.0 o.count ≡ q → (if q then of_owner t (map.get o.owners m.0) else Some (no.NoMutex o.count)) ≡ None → (m.0 < o.count) × (map.get o.owners m.0 ≡ Some t)
      by_test true e h = (ltb-true m.0 o.count e, by_owner (map.get o.owners m.0) h)
      by_test false e h = absurd cc
  held_both b o (given.Block k) is = (by_test (is_heap (map.get b k)) refl is, tt)
    where
      by_test : (q : Bool) → is_heap (map.get b k) ≡ q → (if q then None else Some (bad (start_of k))) ≡ None → IsHeapStart b (start_of k)
      by_test true e h = let c = heap_is (map.get b k) e in (k, c.0, refl, c.1)
      by_test false e h = absurd cc

  pub all_held : (b : Blocks) (o : Mutexes) (gs : List Given) → of_things (S b o) t gs ≡ None → AreBlocksHeld b gs × AreMutexesHeld o t gs
  all_held b o [] is = (tt, tt)
  all_held b o (g ∷ gs) is =
      let first : of_thing (S b o) t g ≡ None = none_first (of_thing (S b o) t g) (of_things (give (S b o) g) t gs) is in
      let rest : of_things (give (S b o) g) t gs ≡ None = sym (ap (λ x. next x (of_things (give (S b o) g) t gs)) first) ∙ is in
      let here = held_both b o g first in
      let more = all_held (blocks_without b g) (owners_without o g) gs (ap (λ s. of_things s t gs) (sym (gives b o g)) ∙ rest) in
      ((here.0, more.0), (here.1, more.1))
    where
      none_first : (x y : Option Illegal) → next x y ≡ None → x ≡ None
      none_first None y e = refl
      none_first (Some w) y e = absurd cc
