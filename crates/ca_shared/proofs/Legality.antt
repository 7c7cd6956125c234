-- What isn't refused is legal, and what is legal isn't refused.
use Rattle.std.proofs.Common.{◌≡◌, ◌≢◌, ◌<◌, ◌≤◌, ◌+◌, ◌^◌, ℕ, zero, suc, ℤ, pos, negsuc, Bool, true, false, List, [], ◌∷◌, Option, Some, None, refl, sym, ap, ◌∙◌, arith, inl, inr, rules}
use Rattle.std.specs.Prelude.{◌&&◌, ◌==◌, if◌then◌else◌, nat_lt, nat_le, IsSome}
use Rattle.std.specs.Ordering.{int_eq, nat_cmp}
use Rattle.std.specs.FinMap as map
use Rattle.std.specs.FinMap.{gets}
use Rattle.std.specs.FinSet as set
use Rattle.std.specs.FinSet.{members}
use Rattle.std.proofs.lemmas.Bool.{cond-true, lt-ltb, ltb-true, le-leb, leb-true, eq-eqb, eqb-true, and_parts, and_from}
use Rattle.std.proofs.lemmas.Bool.Decides.{eqb_tells}
use Rattle.ca_tree.specs.declared.numbers.MutexId.{MutexId}
use Rattle.ca_model.specs.declared.values.Addr.{Addr}
use Rattle.ca_model.specs.declared.values.Value.{Value}
use Rattle.ca_model.specs.declared.values.Value.TheVariants as v
use Rattle.ca_model.specs.declared.values.Given.{Given}
use Rattle.ca_model.specs.declared.values.Given.TheVariants as given
use Rattle.ca_model.specs.declared.values.Event.{Event}
use Rattle.ca_model.specs.declared.values.EventAct.{EventAct}
use Rattle.ca_model.specs.declared.values.EventAct.TheVariants as act
use Rattle.ca_model.specs.declared.tree.GlobalStart.{GlobalStart}
use Rattle.ca_model.specs.Arith.{same, number}
use Rattle.ca_model.specs.Shared.{Blocks, Block, Shared, Phase, Open, Finished, Failed, cell, live_cells, give, give_all, effect, Holds, HoldsEach, Allows, IsLegal, CanMake, IsHeapStart}
use Rattle.ca_model.specs.Machine.{AllLegal}
use Rattle.ca_model.specs.Matched.{shared_after}
use Rattle.ca_model.specs.ComingEntries.{is_heap, can_free}
use Rattle.ca_model.proofs.Entries.{same_is, same_self, can_free_is, can_free_so}
use Rattle.ca_model.proofs.Retries.{heap_is}
use Rattle.ca_model.proofs.KeptByRuns.{few_after, same_ended}
use Rattle.ca_model.proofs.Law.{same_threads}
use Rattle.ca_model.proofs.RunnerStates.{below_after}
use Rattle.ca_memory.specs.Zeros.{start_of}
use Rattle.ca_shared.specs.declared.refusals.Illegal.{Illegal}
use Rattle.ca_shared.specs.declared.refusals.Illegal.TheVariants as no
use Rattle.ca_shared.specs.Histories.{opened, state}
use Rattle.ca_shared.specs.Refusals.{bad, of_read, of_write, of_lock, of_owner, if_mutex, of_block, at_least_one, of_malloc, of_thing, of_things, of_act, if_open, if_going, refusal}
use Rattle.ca_shared.specs.Legal.{HasNumber, IsNumbered, IsWellKept, LegalEntriesKeep, RefusalsAreExact}

-- a test that keeps nothing back
passed : (b : Bool) (more : Option Illegal) (why : Illegal) → (if b then more else Some why) ≡ None → (b ≡ true) × (more ≡ None)
passed true more why h = (refl, h)
passed false more why h = absurd cc

passes : (b : Bool) (more : Option Illegal) (why : Illegal) → b ≡ true → more ≡ None → (if b then more else Some why) ≡ None
passes b more why e h = cond-true b more (Some why) e ∙ h

reads : (a : Addr) (x : Value) (o : Option Value) → of_read a x o ≡ None → o ≡ Some x
reads a x None h = absurd cc
reads a x (Some y) h = ap Some (sym (same_is x y (passed (same x y) None (no.OtherValue y) h).0))

writes : (a : Addr) (o : Option Value) → of_write a o ≡ None → IsSome o
writes a None h = absurd cc
writes a (Some y) h = refl

locks : (o : Option ℕ) → of_lock o ≡ None → o ≡ None
locks None h = refl
locks (Some u) h = absurd cc

owns : (t : ℕ) (o : Option ℕ) → of_owner t o ≡ None → o ≡ Some t
owns t None h = absurd cc
owns t (Some u) h = ap Some (eqb-true u t (passed (u == t) None (no.OwnerIs (Some u)) h).0)

int_is : (n : ℤ) → int_eq n (pos 0) ≡ true → n ≡ pos 0
int_is n h = ap number (same_is (v.Num n) (v.Num (pos 0)) h)

start_is : (a : Addr) → a.offset ≡ pos 0 → v.Addr a ≡ v.Addr (record { block = a.block; offset = pos 0 })
start_is a e = λ i. v.Addr (record { block = a.block; offset = e i })

room : (m : Blocks) (b : ℕ) (n : ℤ) (o : Option Block) → at_least_one n ≡ true → of_block m b n o ≡ None → (k : ℕ) × (n ≡ pos (suc k)) × (o ≡ None) × (live_cells m + suc k ≤ 2 ^ 20)
room m b n (Some x) one h = absurd cc
room m b (pos zero) None one h = absurd cc
room m b (pos (suc k)) None one h = (k, refl, refl, leb-true (live_cells m + suc k) (2 ^ 20) (passed (nat_le (live_cells m + suc k) (2 ^ 20)) None (no.HeapFull (live_cells m)) h).0)
room m b (negsuc n) None one h = absurd cc

makes : (m : Blocks) (n : ℤ) (x : Value) → HasNumber x → of_malloc m n x ≡ None → CanMake m n x
makes m n (v.Num k) low h = inl (ap v.Num (int_is k (passed (int_eq k (pos 0)) None (no.BadMalloc n (v.Num k)) h).0))
makes m n (v.Addr a) low h =
    let q = passed (int_eq a.offset (pos 0) && at_least_one n) (of_block m a.block n (map.get m a.block)) (no.BadMalloc n (v.Addr a)) h in
    let p = and_parts (int_eq a.offset (pos 0)) (at_least_one n) q.0 in
    let r = room m a.block n (map.get m a.block) p.1 q.1 in
    inr (a.block, r.0, start_is a (int_is a.offset p.0), r.1, r.2, low, r.3)

thing : (s : Shared) (t : ℕ) (g : Given) → of_thing s t g ≡ None → Holds s t g
thing s t (given.Mutex m) h = owns t (map.get s.owners m.0) (passed (nat_lt m.0 s.mutexes) (of_owner t (map.get s.owners m.0)) (no.NoMutex s.mutexes) h).1
thing s t (given.Block b) h = let c = heap_is (map.get s.blocks b) (passed (is_heap (map.get s.blocks b)) None (bad (start_of b)) h).0 in (b, c.0, refl, c.1)

abbrev next : Option Illegal → Option Illegal → Option Illegal
next o more = elim o [ Some why ↦ Some why | None ↦ more ]

both_none : (x y : Option Illegal) → next x y ≡ None → (x ≡ None) × (y ≡ None)
both_none None y e = (refl, e)
both_none (Some w) y e = absurd cc

things : (s : Shared) (t : ℕ) (gs : List Given) → of_things s t gs ≡ None → HoldsEach s t gs
things s t [] h = tt
things s t (g ∷ gs) h = let two = both_none (of_thing s t g) (of_things (give s g) t gs) h in (thing s t g two.0, things (give s g) t gs two.1)

allows : (s : Shared) (t : ℕ) (a : EventAct) → IsNumbered a → of_act s t a ≡ None → Allows s t a
allows s t (act.Read a x) low h = reads a x (cell s.blocks a.block a.offset) h
allows s t (act.Write a x) low h = writes a (cell s.blocks a.block a.offset) h
allows s t (act.Lock m) low h = let p = passed (nat_lt m.0 s.mutexes) (of_lock (map.get s.owners m.0)) (no.NoMutex s.mutexes) h in (ltb-true m.0 s.mutexes p.0, locks (map.get s.owners m.0) p.1)
allows s t (act.Unlock m) low h = owns t (map.get s.owners m.0) (passed (nat_lt m.0 s.mutexes) (of_owner t (map.get s.owners m.0)) (no.NoMutex s.mutexes) h).1
allows s t (act.Malloc n x) low h = makes s.blocks n x low h
allows s t (act.Free x) low h = can_free_is s.blocks x (passed (can_free s.blocks x) None (bad x) h).0
allows s t (act.Create u) low h = let p = and_parts (u == s.threads) (nat_lt u 64) (passed ((u == s.threads) && nat_lt u 64) None (no.ThreadsAre s.threads) h).0 in (eqb-true u s.threads p.0, ltb-true u 64 p.1)
allows s t (act.Join u) low h = (passed (set.contains s.ended u) None (no.NotEnded u) (passed (nat_lt u s.threads) (if set.contains s.ended u then None else Some (no.NotEnded u)) (no.ThreadsAre s.threads) h).1).0
allows s t (act.Retry site gs) low h = things s t gs h
allows s t _ low h = tt

opens : (p : Phase) (more : Option Illegal) → if_open p more ≡ None → (p ≡ Open) × (more ≡ None)
opens Open more h = (refl, h)
opens Finished more h = absurd cc
opens (Failed k) more h = absurd cc

goes : (b : Bool) (more : Option Illegal) → if_going b more ≡ None → (b ≡ false) × (more ≡ None)
goes true more h = absurd cc
goes false more h = (refl, h)

pub legal_if : (s : Shared) (e : Event) → IsNumbered e.act → refusal s e ≡ None → IsLegal s e.thread e.act
legal_if s e low h =
    let p = opens s.phase _ h in
    let q = passed (nat_lt e.thread s.threads) _ no.NoThread p.1 in
    let r = goes (set.contains s.ended e.thread) (of_act s e.thread e.act) q.1 in
    record { run = p.0; there = ltb-true e.thread s.threads q.0; going = r.0; allowed = allows s e.thread e.act low r.1 }

pub act_if : (s : Shared) (e : Event) → refusal s e ≡ None → of_act s e.thread e.act ≡ None
act_if s e h =
    let p = opens s.phase _ h in
    let q = passed (nat_lt e.thread s.threads) _ no.NoThread p.1 in
    (goes (set.contains s.ended e.thread) (of_act s e.thread e.act) q.1).1

pub there_if : (s : Shared) (e : Event) → refusal s e ≡ None → e.thread < s.threads
there_if s e h = ltb-true e.thread s.threads (passed (nat_lt e.thread s.threads) _ no.NoThread (opens s.phase _ h).1).0

-- the other way round
written : (a : Addr) (o : Option Value) → IsSome o → of_write a o ≡ None
written a None h = absurd cc
written a (Some y) h = refl

mine : (t n : ℕ) (m : MutexId) (o : Option ℕ) → m.0 < n → o ≡ Some t → if_mutex n m (of_owner t o) ≡ None
mine t n m o lt is = passes (nat_lt m.0 n) (of_owner t o) (no.NoMutex n) (lt-ltb m.0 n lt) (ap (of_owner t) is ∙ passes (t == t) None (no.OwnerIs (Some t)) (eq-eqb t t refl) refl)

made_so : (m : Blocks) (n : ℤ) (x : Value) → CanMake m n x → of_malloc m n x ≡ None
made_so m n x (inl is) = ap (of_malloc m n) is
made_so m n x (inr (b, k, is, size, unused, low, fits)) =
    ap (of_malloc m n) is
    ∙ (ap (λ z. of_malloc m z (start_of b)) size
    ∙ passes (int_eq (pos 0) (pos 0) && at_least_one (pos (suc k))) (of_block m b (pos (suc k)) (map.get m b)) (no.BadMalloc (pos (suc k)) (start_of b)) (lt-ltb 0 (suc k) (omega arith))
    (ap (of_block m b (pos (suc k))) unused ∙ passes (nat_le (live_cells m + suc k) (2 ^ 20)) None (no.HeapFull (live_cells m)) (le-leb (live_cells m + suc k) (2 ^ 20) fits) refl))

abbrev block_number : Value → ℕ
block_number (v.Num n) = 0
block_number (v.Addr a) = a.block

heap_so : (m : Blocks) (b : ℕ) → IsHeapStart m (start_of b) → is_heap (map.get m b) ≡ true
heap_so m b (k, c, is, at) = ap (λ n. is_heap (map.get m n)) (ap block_number is) ∙ ap is_heap at

thing_so : (s : Shared) (t : ℕ) (g : Given) → ((m u : ℕ) → map.get s.owners m ≡ Some u → m < s.mutexes) → Holds s t g → of_thing s t g ≡ None
thing_so s t (given.Mutex m) there h = mine t s.mutexes m (map.get s.owners m.0) (there m.0 t h) h
thing_so s t (given.Block b) there h = passes (is_heap (map.get s.blocks b)) None (bad (start_of b)) (heap_so s.blocks b h) refl

removed : (o : map.FinMap nat_cmp ℕ) (n m u : ℕ) → map.get (map.remove o n) m ≡ Some u → map.get o m ≡ Some u
removed o n m u h = grind (gets, rules)

still_there : (s : Shared) (g : Given) → ((m u : ℕ) → map.get s.owners m ≡ Some u → m < s.mutexes) → (m u : ℕ) → map.get (give s g).owners m ≡ Some u → m < (give s g).mutexes
still_there s (given.Mutex n) there m u h = there m u (removed s.owners n.0 m u h)
still_there s (given.Block b) there m u h = there m u h

things_so : (s : Shared) (t : ℕ) (gs : List Given) → ((m u : ℕ) → map.get s.owners m ≡ Some u → m < s.mutexes) → HoldsEach s t gs → of_things s t gs ≡ None
things_so s t [] there h = refl
things_so s t (g ∷ gs) there h = ap (λ x. next x (of_things (give s g) t gs)) (thing_so s t g there h.0) ∙ things_so (give s g) t gs (still_there s g there) h.1

allowed_so : (s : Shared) (t : ℕ) (a : EventAct) → IsWellKept s → Allows s t a → of_act s t a ≡ None
allowed_so s t (act.Read a x) k h = ap (of_read a x) h ∙ passes (same x x) None (no.OtherValue x) (same_self x) refl
allowed_so s t (act.Write a x) k h = written a (cell s.blocks a.block a.offset) h
allowed_so s t (act.Lock m) k h = passes (nat_lt m.0 s.mutexes) (of_lock (map.get s.owners m.0)) (no.NoMutex s.mutexes) (lt-ltb m.0 s.mutexes h.0) (ap of_lock h.1)
allowed_so s t (act.Unlock m) k h = mine t s.mutexes m (map.get s.owners m.0) (k.owned m.0 t h) h
allowed_so s t (act.Malloc n x) k h = made_so s.blocks n x h
allowed_so s t (act.Free x) k h = passes (can_free s.blocks x) None (bad x) (can_free_so s.blocks x h) refl
allowed_so s t (act.Create u) k h = passes ((u == s.threads) && nat_lt u 64) None (no.ThreadsAre s.threads) (and_from (u == s.threads) (nat_lt u 64) (eq-eqb u s.threads h.0) (lt-ltb u 64 h.1)) refl
allowed_so s t (act.Join u) k h =
    passes (nat_lt u s.threads) (if set.contains s.ended u then None else Some (no.NotEnded u)) (no.ThreadsAre s.threads) (lt-ltb u s.threads (k.ended u h)) (passes (set.contains s.ended u) None (no.NotEnded u) h refl)
allowed_so s t (act.Retry site gs) k h = things_so s t gs k.owned h
allowed_so s t _ k h = refl

pub passes_if : (s : Shared) (e : Event) → IsWellKept s → IsLegal s e.thread e.act → refusal s e ≡ None
passes_if s e k l =
    ap (λ p. if_open p (if nat_lt e.thread s.threads then if_going (set.contains s.ended e.thread) (of_act s e.thread e.act) else Some no.NoThread)) l.run
    ∙ passes (nat_lt e.thread s.threads) (if_going (set.contains s.ended e.thread) (of_act s e.thread e.act)) no.NoThread (lt-ltb e.thread s.threads l.there)
    (ap (λ b. if_going b (of_act s e.thread e.act)) l.going ∙ allowed_so s e.thread e.act k l.allowed)

-- what legal entries leave
put : (o : map.FinMap nat_cmp ℕ) (n t m u k : ℕ) → n < k → ((m u : ℕ) → map.get o m ≡ Some u → m < k) → map.get (map.insert o n t) m ≡ Some u → m < k
put o n t m u k lt there h = elim (eqb_tells m n) [
  | inl is ↦ omega (arith, is.1, lt)
  | inr other ↦ there m u (sym (elsewhere o n t m other.1) ∙ h)
]
  where
    elsewhere : (o : map.FinMap nat_cmp ℕ) (n t m : ℕ) → m ≢ n → map.get (map.insert o n t) m ≡ map.get o m
    elsewhere o n t m ne = grind (gets, rules)

given_owned : (s : Shared) (gs : List Given) → ((m u : ℕ) → map.get s.owners m ≡ Some u → m < s.mutexes) → (m u : ℕ) → map.get (give_all s gs).owners m ≡ Some u → m < (give_all s gs).mutexes
given_owned s [] there = there
given_owned s (g ∷ gs) there = given_owned (give s g) gs (still_there s g there)

owned_after : (s : Shared) (t : ℕ) (a : EventAct) → IsLegal s t a → IsWellKept s → (m u : ℕ) → map.get (effect s t a).owners m ≡ Some u → m < (effect s t a).mutexes
owned_after s t (act.Lock n) l k m u h = put s.owners n.0 t m u s.mutexes l.allowed.0 k.owned h
owned_after s t (act.Unlock n) l k m u h = k.owned m u (removed s.owners n.0 m u h)
owned_after s t (act.Retry site gs) l k m u h = given_owned s gs k.owned m u h
owned_after s t _ l k m u h = k.owned m u h

ended_so : (e : set.FinSet nat_cmp) (t u k : ℕ) → t < k → ((u : ℕ) → set.contains e u ≡ true → u < k) → set.contains (set.insert e t) u ≡ true → u < k
ended_so e t u k lt there h = elim (eqb_tells u t) [
  | inl is ↦ omega (arith, is.1, lt)
  | inr other ↦ there u (sym (elsewhere e t u other.1) ∙ h)
]
  where
    elsewhere : (e : set.FinSet nat_cmp) (t u : ℕ) → u ≢ t → set.contains (set.insert e t) u ≡ set.contains e u
    elsewhere e t u ne = grind (members, rules)

ended_after : (s : Shared) (t : ℕ) (a : EventAct) → IsLegal s t a → IsWellKept s → (u : ℕ) → set.contains (effect s t a).ended u ≡ true → u < (effect s t a).threads
ended_after s t act.End l k u h = ended_so s.ended t u s.threads l.there k.ended h
ended_after s t (act.Create n) l k u h = let below = k.ended u h in omega (arith, below)
ended_after s t (act.Retry site gs) l k u h = let below = k.ended u (sym (ap (λ e. set.contains e u) (same_ended gs s)) ∙ h) in omega (arith, below, same_threads gs s)
ended_after s t _ l k u h = k.ended u h

pub kept_after : (s : Shared) (t : ℕ) (a : EventAct) → IsLegal s t a → IsWellKept s → IsWellKept (effect s t a)
kept_after s t a l k = record { owned = owned_after s t a l k; ended = ended_after s t a l k; few = few_after s t a l k.few; made = below_after s t a l (k.made l.run) }

pub kept_all : (s : Shared) (es : List Event) → AllLegal s es → IsWellKept s → IsWellKept (shared_after s es)
kept_all s [] l k = k
kept_all s (e ∷ es) l k = kept_all (effect s e.thread e.act) es l.1 (kept_after s e.thread e.act l.0 k)

pub opened_well : (gs : List GlobalStart) (n : ℕ) → IsWellKept (opened gs n)
opened_well gs n = record { owned = none_owned; ended = none_ended; few = omega arith; made = λ is u h. absurd (nobody u h) }
  where
    nobody : (u : ℕ) → set.contains (set.empty {R = nat_cmp}) u ≡ true → ⊥
    nobody u h = let never : false ≡ true = sym (none u) ∙ h in cc
      where
        none : (u : ℕ) → set.contains (set.empty {R = nat_cmp}) u ≡ false
        none u = grind (members, rules)

    none_ended : (u : ℕ) → set.contains (set.empty {R = nat_cmp}) u ≡ true → u < 1
    none_ended u h = absurd (nobody u h)

    none_owned : (m u : ℕ) → map.get (map.empty {K = ℕ} {X = ℕ} {R = nat_cmp}) m ≡ Some u → m < n
    none_owned m u h = absurd (let never : ◌≡◌ {A = Option ℕ} None (Some u) = sym (none m) ∙ h in cc)
      where
        none : (m : ℕ) → map.get (map.empty {K = ℕ} {X = ℕ} {R = nat_cmp}) m ≡ None
        none m = grind (gets, rules)

pub legal_keep : LegalEntriesKeep
legal_keep h l = kept_all (opened h.globals h.mutexes) h.trace l (opened_well h.globals h.mutexes)

pub exact : RefusalsAreExact
exact h l e low = (legal_if (state h) e low, passes_if (state h) e (legal_keep h l))
