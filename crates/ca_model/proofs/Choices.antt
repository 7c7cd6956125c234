-- For what a thread wants, the shared state gives an answer or a fault, or the thread waits.
use Rattle.std.proofs.Common.{◌≡◌, ℕ, zero, suc, ◌<◌, ◌≤◌, Bool, true, false, Option, Some, None, refl, sym, ap, ◌∙◌, subst, arith, inl, inr}
use Rattle.std.specs.Prelude.{◌⊎◌, ◌==◌, ℤ, pos, negsuc, ◌+ℤ◌, is_some}
use Rattle.std.specs.FinMap as map
use Rattle.std.specs.FinSet as set
use Rattle.std.proofs.lemmas.Bool.{and_from, cases_lt}
use Rattle.std.proofs.lemmas.Bool.Decides.{Decides-eqb, Decides-ltb, eqb_tells}
use Rattle.ca_tree.specs.declared.numbers.FunId.{FunId}
use Rattle.ca_tree.specs.declared.numbers.MutexId.{MutexId}
use Rattle.ca_tree.specs.declared.numbers.ItemId.{ItemId}
use Rattle.ca_tree.specs.declared.numbers.SiteId.{SiteId}
use Rattle.ca_model.specs.declared.values.Addr.{Addr}
use Rattle.ca_model.specs.declared.values.Value.{Value}
use Rattle.ca_model.specs.declared.values.Value.TheVariants as v
use Rattle.ca_model.specs.declared.values.FaultKind.{FaultKind}
use Rattle.ca_model.specs.declared.values.FaultKind.TheVariants as fault
use Rattle.ca_model.specs.declared.values.EventAct.{EventAct}
use Rattle.ca_model.specs.declared.values.EventAct.TheVariants as act
use Rattle.ca_model.specs.declared.tree.LoadKind.{LoadKind}
use Rattle.ca_model.specs.Arith.{null, same, suits}
use Rattle.ca_model.specs.Asks.{Want, Reads, Writes, Locks, Unlocks, Mallocs, Frees, Prints, Creates, Joins, Calls, Returns, Turns, Ends, Fails, Faults, Saves, Ended}
use Rattle.ca_model.specs.Private.{is_at, when, answer, may_fault}
use Rattle.ca_model.specs.Shared.{Shared, Open, cell, CanMake, CanFree, Allows, IsLegal, IsUnfit, FaultIsDue}
use Rattle.ca_model.specs.Codes.{Typed}
use Rattle.ca_model.specs.Waits.{WaitsAt}
use Rattle.ca_model.proofs.Law.{one_of}
use Rattle.ca_model.proofs.KnownWants.{IsKnown}
use Rattle.ca_model.proofs.Entries.{int_self, same_self, text_self, free_or_not}

-- numbers and texts are themselves
same_count : (n : ℕ) → (n == n) ≡ true
same_count n = (Decides-eqb n n).1 refl

when_true : (b : Bool) (x : Value) → b ≡ true → when b x ≡ Some x
when_true b x e = ap (λ b. when b x) e

-- the cell that an access names
abbrev moved_by : Addr → ℤ → Addr
moved_by a by = record { block = a.block; offset = a.offset +ℤ by }

at_itself : (a : Addr) (by : ℤ) → is_at (v.Addr a) by (moved_by a by) ≡ true
at_itself a by = and_from _ _ (same_count a.block) (int_self (a.offset +ℤ by))

-- the number that a whole number is, where it is one
abbrev pub count_of : ℤ → ℕ
count_of (pos n) = n
count_of (negsuc n) = 0

-- a thread that can make entries
pub record IsRunning (s : Shared) (t : ℕ) : Type 0 where
  pub run : s.phase ≡ Open
  pub there : t < s.threads
  pub going : set.contains s.ended t ≡ false
  pub few : s.threads ≤ 64

pub data Choice (s : Shared) (t : ℕ) (w : Want) : Type 0 where
  Answers : (a : EventAct) (x : Value) → answer w a ≡ Some x → IsLegal s t a → Choice s t w
  Fails_by : (k : FaultKind) → may_fault w k ≡ true → FaultIsDue s t w k → Choice s t w
  Must_wait : WaitsAt s w → Choice s t w

pub legal : (s : Shared) (t : ℕ) → IsRunning s t → (a : EventAct) → Allows s t a → IsLegal s t a
legal s t running a allowed = record { run = running.run; there = running.there; going = running.going; allowed = allowed }

module _ (s : Shared) (t : ℕ) (running : IsRunning s t) where
  free : (w : Want) (a : EventAct) (x : Value) → answer w a ≡ Some x → Allows s t a → Choice s t w
  free w a x is allowed = Answers a x is (legal s t running a allowed)

  reads_cell : (a : Addr) (by : ℤ) (k : LoadKind) (site : Option SiteId) (o : Option Value) → cell s.blocks a.block (a.offset +ℤ by) ≡ o → Choice s t (Reads (v.Addr a) by k site)
  reads_cell a by k site None is = Fails_by fault.Pointer refl is
  reads_cell a by k site (Some x) is =
      elim (suits k x) as (λ b. suits k x ≡ b → Choice s t (Reads (v.Addr a) by k site)) [
        | true ↦ λ e. free _ (act.Read (moved_by a by) x) x (when_true _ x (and_from _ _ (at_itself a by) e)) is
        | false ↦ λ e. Fails_by fault.Kind refl (subst (IsUnfit k) (sym is) e)
      ] refl

  writes_cell : (a : Addr) (by : ℤ) (x : Value) (site : Option SiteId) (o : Option Value) → cell s.blocks a.block (a.offset +ℤ by) ≡ o → Choice s t (Writes (v.Addr a) by x site)
  writes_cell a by x site None is = Fails_by fault.Pointer refl is
  writes_cell a by x site (Some y) is = free _ (act.Write (moved_by a by) x) null (when_true _ null (and_from _ _ (at_itself a by) (same_self x))) (ap is_some is)

  locks : (m : MutexId) (site : SiteId) (i : ItemId) (o : Option ℕ) → m.0 < s.mutexes → map.get s.owners m.0 ≡ o → Choice s t (Locks m site i)
  locks m site i None lt is = free _ (act.Lock m) null (when_true _ null (same_count m.0)) (lt, is)
  locks m site i (Some u) lt is = Must_wait (u, is)

  unlocks : (m : MutexId) (o : Option ℕ) → map.get s.owners m.0 ≡ o → Choice s t (Unlocks m)
  unlocks m None is = Fails_by fault.Mutex refl (λ e. let never : None ≡ Some t = sym is ∙ e in cc)
  unlocks m (Some u) is = elim (eqb_tells u t) [
    | inl (b, e) ↦ free _ (act.Unlock m) null (when_true _ null (same_count m.0)) (is ∙ ap Some e)
    | inr (b, ne) ↦ Fails_by fault.Mutex refl (λ e. ne (one_of u t (sym is ∙ e)))
  ]

  -- any value that `malloc` may give
  pub allocates : (cells : ℤ) (i : ItemId) (x : Value) → CanMake s.blocks cells x → Choice s t (Mallocs cells i)
  allocates cells i x can = free _ (act.Malloc cells x) x (when_true _ x (int_self cells)) can

  frees : (x : Value) (site : SiteId) → CanFree s.blocks x ⊎ (CanFree s.blocks x → ⊥) → Choice s t (Frees x site)
  frees x site (inl can) = free _ (act.Free x) null (when_true _ null (same_self x)) can
  frees x site (inr can't) = Fails_by fault.Pointer refl can't

  creates : (f : FunId) (x : Value) → (s.threads < 64) ⊎ (s.threads ≡ 64) → Choice s t (Creates f x)
  creates f x (inl lt) =
      free _ (act.Create s.threads) (v.Num (pos s.threads)) (when_true _ (v.Num (pos s.threads)) (and_from _ _ ((Decides-ltb 0 s.threads).1 (omega (arith, running.there))) ((Decides-ltb s.threads 64).1 lt))) (refl, lt)
  creates f x (inr is) = Fails_by fault.Thread refl is

  joins : (u : ℕ) → suc u < s.threads → Choice s t (Joins (pos (suc u)))
  joins u lt =
      elim (set.contains s.ended (suc u)) as (λ b. set.contains s.ended (suc u) ≡ b → Choice s t (Joins (pos (suc u)))) [
        | true ↦ λ e. free _ (act.Join (suc u)) null (when_true _ null (int_self (pos (suc u)))) e
        | false ↦ λ e. Must_wait (u, refl, lt, e)
      ] refl

  joins_if : (u : ℕ) → (suc u < s.threads) ⊎ (s.threads ≤ suc u) → Choice s t (Joins (pos (suc u)))
  joins_if u (inl lt) = joins u lt
  joins_if u (inr le) = Fails_by fault.Thread refl (λ w e lt. let same : suc u ≡ suc w = ap count_of e in omega (arith, same, lt, le))

  join : (n : ℤ) → Choice s t (Joins n)
  join (pos zero) = Fails_by fault.Thread refl (λ w e lt. let same : 0 ≡ suc w = ap count_of e in omega (arith, same))
  join (pos (suc u)) = joins_if u (cases_lt (suc u) s.threads)
  join (negsuc k) = Fails_by fault.Thread refl (λ w e lt. cc)

  read : (at : Value) (by : ℤ) (k : LoadKind) (site : Option SiteId) → Choice s t (Reads at by k site)
  read (v.Num n) by k site = Fails_by fault.Pointer refl refl
  read (v.Addr a) by k site = reads_cell a by k site (cell s.blocks a.block (a.offset +ℤ by)) refl

  write : (at : Value) (by : ℤ) (x : Value) (site : Option SiteId) → Choice s t (Writes at by x site)
  write (v.Num n) by x site = Fails_by fault.Pointer refl refl
  write (v.Addr a) by x site = writes_cell a by x site (cell s.blocks a.block (a.offset +ℤ by)) refl

  room : (s.threads < 64) ⊎ (64 ≤ s.threads) → (s.threads < 64) ⊎ (s.threads ≡ 64)
  room (inl lt) = inl lt
  room (inr le) = inr (omega (arith, le, running.few))

  -- for whatever is wanted; a `malloc` may give null
  pub choose : (p : Typed) → s.mutexes ≡ p.mutexes → (w : Want) → IsKnown p w → Choice s t w
  choose p same (Reads at by k site) known = read at by k site
  choose p same (Writes at by x site) known = write at by x site
  choose p same (Locks m site i) known = locks m site i (map.get s.owners m.0) (omega (arith, same, known)) refl
  choose p same (Unlocks m) known = unlocks m (map.get s.owners m.0) refl
  choose p same (Mallocs cells i) known = allocates cells i null (inl refl)
  choose p same (Frees x site) known = frees x site (free_or_not s.blocks x)
  choose p same (Prints text) known = free _ (act.Print text) null (when_true _ null (text_self text)) tt
  choose p same (Creates f x) known = creates f x (room (cases_lt s.threads 64))
  choose p same (Joins n) known = join n
  choose p same (Calls f xs) known = free _ (act.Call f) null (when_true _ null (same_count f.0)) tt
  choose p same (Returns x) known = free _ (act.Return x) null (when_true _ null (same_self x)) tt
  choose p same Turns known = free _ act.Turn null refl tt
  choose p same Ends known = free _ act.End null refl tt
  choose p same (Fails site) known = Fails_by fault.Assert refl tt
  choose p same (Faults k) known = Fails_by fault.Arith (ap (λ k. may_fault (Faults k) fault.Arith) known) tt
  choose p same Saves known = free _ act.Save null refl tt
  choose p same Ended known = absurd known
