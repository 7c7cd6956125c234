-- Whether an entry of a thread is possible, by what it wants.
use Rattle.std.proofs.Common.{◌≡◌, ℕ, zero, suc, ◌^◌, ◌<◌, Bool, true, false, cond, List, [], ◌∷◌, Option, Some, None, refl, sym, ap, ◌∙◌, subst, arith, inl, inr}
use Rattle.std.specs.Prelude.{◌⊎◌, ◌&&◌, ◌==◌, ℤ, pos, negsuc, ◌+ℤ◌, is_some, nat_lt, if◌then◌else◌}
use Rattle.std.specs.Ordering.{int_eq}
use Rattle.std.specs.FinMap as map
use Rattle.std.specs.FinSet as set
use Rattle.std.proofs.lemmas.Bool.{cases_Bool, cases_order, and_from, and_right, eq-eqb, ne_eqb, lt-ltb, le-ltb, ltb-true, ltb-false, both_ways}
use Rattle.std.proofs.lemmas.Slice.Eq.{bytes_eq-Decides}
use Rattle.ca_tree.specs.declared.numbers.SiteId.{SiteId}
use Rattle.ca_tree.specs.declared.numbers.MutexId.{MutexId}
use Rattle.ca_tree.specs.declared.numbers.ItemId.{ItemId}
use Rattle.ca_model.specs.declared.values.Value.{Value}
use Rattle.ca_model.specs.declared.values.Value.TheVariants as v
use Rattle.ca_model.specs.declared.values.Given.{Given}
use Rattle.ca_model.specs.declared.values.FaultKind.{FaultKind}
use Rattle.ca_model.specs.declared.values.FaultKind.TheVariants as fault
use Rattle.ca_model.specs.declared.values.EventAct.{EventAct}
use Rattle.ca_model.specs.declared.values.EventAct.TheVariants as act
use Rattle.ca_model.specs.declared.tree.LoadKind.{LoadKind}
use Rattle.ca_model.specs.Arith.{null, same, suits}
use Rattle.ca_model.specs.Asks.{Want, Reads, Writes, Locks, Unlocks, Mallocs, Frees, Prints, Creates, Joins, Calls, Returns, Turns, Ends, Fails, Faults, Saves, Ended}
use Rattle.ca_model.specs.Frames.{Code}
use Rattle.ca_model.specs.Private.{Thread, is_at, when, answer, may_fault, going_on, after_entry}
use Rattle.ca_model.specs.Shared.{Shared, Blocks, cell, reached, CanFree, Allows, IsUnfit, FaultIsDue}
use Rattle.ca_model.specs.Hardened.{Hardened, Saved, fresh, site_of, may_retry, took, taking, with_frames, retried, back, is_failing, hardened_by, FailsNow, NamesHeld}
use Rattle.ca_model.specs.Runner.{HasRoom, IsChosen, IsLeastUnused}
use Rattle.ca_model.specs.ComingEntries.{is_owner, gives_of, retrying, gives_at, aimed, room, block_at, can_free, lock_entry, create_entry, the_entry}
use Rattle.ca_model.proofs.Retries.{owner_is, is_owner_so, gives_part, gives_held, gives_named}
use Rattle.ca_model.proofs.Entries.{int_self, same_self, room_is, room_so, can_free_is, can_free_so}
use Rattle.ca_model.proofs.OneEntry.{DueAt}

-- an access that reaches a cell reaches it at its address
at_aimed : (m : Blocks) (at : Value) (by : ℤ) (x : Value) → reached m at by ≡ Some x → (is_at at by (aimed at by) ≡ true) × (cell m (aimed at by).block (aimed at by).offset ≡ Some x)
at_aimed m (v.Num n) by x e = absurd cc
at_aimed m (v.Addr a) by x e = (and_from (a.block == a.block) (int_eq (a.offset +ℤ by) (a.offset +ℤ by)) (eq-eqb a.block a.block refl) (int_self (a.offset +ℤ by)), e)

abbrev IsPlain : EventAct → Type 0
IsPlain act.Save = ⊥
IsPlain (act.Fault f) = ⊥
IsPlain (act.Retry site gives) = ⊥
IsPlain _ = Unit {0}

module _ (code : Code) (h : Hardened) (g : Shared) (t k : ℕ) (go : Value → Thread) where
  abbrev Site : Want → Option SiteId
  Site w = may_retry code (site_of w) h.saved

  -- an entry of a thread that wants w: its own, allowed, due and chosen
  pub record Possible (w : Want) (a : EventAct) : Type 0 where
    pub after : Hardened
    pub own : hardened_by code h (record { want = w; go = go }) (may_retry code (site_of w) h.saved) a ≡ Some after
    pub allowed : Allows g t a
    pub due : DueAt g t w h.saved a
    pub chosen : IsChosen g a

  by_answer : (w : Want) (a : EventAct) (y : Value) (gs : List Given) → answer w a ≡ Some y
      → with_frames (going_on (record { want = w; go = go }) (answer w a)) gs h.saved ≡ Some (record { frames = go y; saved = took gs h.saved })
  by_answer w a y gs e = ap (λ o. with_frames (going_on (record { want = w; go = go }) o) gs h.saved) e

  plain_possible : (w : Want) (a : EventAct) (y : Value) → IsPlain a → answer w a ≡ Some y → Allows g t a → IsChosen g a → Possible w a
  plain_possible w act.Save y p e ok is = absurd p
  plain_possible w (act.Fault f) y p e ok is = absurd p
  plain_possible w (act.Retry s gs) y p e ok is = absurd p
  plain_possible w a y p e ok is =
      record { after = record { frames = go y; saved = took (taking code w a) h.saved }; own = by_answer w a y (taking code w a) e; allowed = ok; due = tt; chosen = is }

  fault_possible : (w : Want) (f : FaultKind) → may_fault w f ≡ true → (is_some (Site w) && is_failing f) ≡ false → FaultIsDue g t w f → Possible w (act.Fault f)
  fault_possible w f e no' due = record {
    after = record { frames = []; saved = took [] h.saved };
    own = ap (λ b. if b then None else with_frames (after_entry (record { want = w; go = go }) (act.Fault f)) [] h.saved) no' ∙ ap (λ b. with_frames (if b then Some [] else None) [] h.saved) e;
    allowed = tt;
    due = due;
    chosen = tt;
  }

  saved_is : (o : Option SiteId) (saved : Option Saved) (at : SiteId) → may_retry code o saved ≡ Some at → (sv : Saved) × (saved ≡ Some sv)
  saved_is None saved at e = absurd cc
  saved_is (Some s) None at e = absurd cc
  saved_is (Some s) (Some sv) at e = (sv, refl)

  retry_possible : (w : Want) (at : SiteId) → Site w ≡ Some at → FailsNow g t w → Possible w (act.Retry at (gives_at g t h.saved))
  retry_possible w at e fails =
      let s = saved_is (site_of w) h.saved at e in
      let sv = s.0 in
      let gives = gives_at g t h.saved in
      let list : gives ≡ gives_of g t sv = ap (gives_at g t) s.1 in
      let copied : Hardened = record { frames = sv.copy; saved = Some (record { copy = sv.copy; tried = at ∷ sv.tried; taken = [] }) } in
      record {
        after = copied;
        own =
            ap (λ r. retried r h.saved at gives) e
            ∙ (ap (λ b. if b then back h.saved at gives else None) (eq-eqb at.0 at.0 refl)
            ∙ (ap (λ o. back o at gives) s.1 ∙ (ap (λ l. back (Some sv) at l) list ∙ ap (λ b. if b then Some copied else None) (gives_part g t sv))));
        allowed = subst (λ l. Allows g t (act.Retry at l)) (sym list) (gives_held g t sv);
        due = (fails, subst (λ o. NamesHeld g t (gives_at g t o) o) (sym s.1) (gives_named g t sv));
        chosen = tt;
      }

  abbrev Some_entry : Want → Type 0
  Some_entry w = (a : EventAct) × Possible w a

  -- a failing site: a retry where one may come, and else the fault
  failing_possible : (w : Want) (f : FaultKind) → may_fault w f ≡ true → FaultIsDue g t w f → FailsNow g t w → (o : Option SiteId) → Site w ≡ o → Some_entry w
  failing_possible w f e due fails None is = (act.Fault f, fault_possible w f e (ap (λ r. is_some r && is_failing f) is) due)
  failing_possible w f e due fails (Some at) is = (act.Retry at (gives_at g t h.saved), retry_possible w at is fails)

  -- either an entry is possible, or none comes
  abbrev pub Decided : Want → Type 0
  Decided w = Some_entry w ⊎ (the_entry g t k (Site w) (gives_at g t h.saved) w ≡ None)

  reading : (at : Value) (by : ℤ) (kd : LoadKind) (s : Option SiteId) (o : Option Value) → reached g.blocks at by ≡ o → Some_entry (Reads at by kd s)
  reading at by kd s None e = failing_possible (Reads at by kd s) fault.Pointer refl e e (Site (Reads at by kd s)) refl
  reading at by kd s (Some x) e = elim (cases_Bool (suits kd x)) [
    | inl fits ↦
        let aim = at_aimed g.blocks at by x e in
        (act.Read (aimed at by) x, plain_possible (Reads at by kd s) (act.Read (aimed at by) x) x tt (ap (λ b. when b x) (and_from (is_at at by (aimed at by)) (suits kd x) aim.0 fits)) aim.1 tt)
    | inr unfit ↦ (act.Fault fault.Kind, fault_possible (Reads at by kd s) fault.Kind refl (and_right (is_some (Site (Reads at by kd s))) false refl) (subst (IsUnfit kd) (sym e) unfit))
  ]

  writing : (at : Value) (by : ℤ) (x : Value) (s : Option SiteId) (o : Option Value) → reached g.blocks at by ≡ o → Some_entry (Writes at by x s)
  writing at by x s None e = failing_possible (Writes at by x s) fault.Pointer refl e e (Site (Writes at by x s)) refl
  writing at by x s (Some y) e =
      let aim = at_aimed g.blocks at by y e in
      (act.Write (aimed at by) x, plain_possible (Writes at by x s) (act.Write (aimed at by) x) null tt (ap (λ b. when b null) (and_from (is_at at by (aimed at by)) (same x x) aim.0 (same_self x))) (ap is_some aim.1) tt)

  number_self : (n : ℕ) → when (n == n) null ≡ Some null
  number_self n = ap (λ b. when b null) (eq-eqb n n refl)

  locking : (m : MutexId) (s : SiteId) (i : ItemId) (o : Option ℕ) → map.get g.owners m.0 ≡ o → (r : Option SiteId) → Site (Locks m s i) ≡ r → Decided (Locks m s i)
  locking m s i None e r is = elim (cases_Bool (nat_lt m.0 g.mutexes)) [
    | inl there ↦ inl (act.Lock m, plain_possible (Locks m s i) (act.Lock m) null tt (number_self m.0) (ltb-true m.0 g.mutexes there, e) tt)
    | inr none ↦ inr (ap (λ o. lock_entry m (nat_lt m.0 g.mutexes) o (retrying (Site (Locks m s i)) (gives_at g t h.saved))) e ∙ ap (λ b. cond b (Some (act.Lock m)) None) none)
  ]
  locking m s i (Some u) e None is =
      inr (ap (λ o. lock_entry m (nat_lt m.0 g.mutexes) o (retrying (Site (Locks m s i)) (gives_at g t h.saved))) e ∙ ap (λ r. retrying r (gives_at g t h.saved)) is)
  locking m s i (Some u) e (Some at) is = inl (act.Retry at (gives_at g t h.saved), retry_possible (Locks m s i) at is (u, e))

  unlocking : (m : MutexId) (b : Bool) → is_owner t (map.get g.owners m.0) ≡ b → Some_entry (Unlocks m)
  unlocking m true e = (act.Unlock m, plain_possible (Unlocks m) (act.Unlock m) null tt (number_self m.0) (owner_is (map.get g.owners m.0) t e) tt)
  unlocking m false e = (act.Fault fault.Mutex, fault_possible (Unlocks m) fault.Mutex refl refl (λ is. both_ways (is_owner t (map.get g.owners m.0)) e (is_owner_so (map.get g.owners m.0) t is)))

  freeing : (x : Value) (s : SiteId) (b : Bool) → can_free g.blocks x ≡ b → Some_entry (Frees x s)
  freeing x s true e = (act.Free x, plain_possible (Frees x s) (act.Free x) null tt (ap (λ b. when b null) (same_self x)) (can_free_is g.blocks x e) tt)
  freeing x s false e =
      let never : CanFree g.blocks x → ⊥ = λ c. both_ways (can_free g.blocks x) e (can_free_so g.blocks x c) in
      failing_possible (Frees x s) fault.Pointer refl never never (Site (Frees x s)) refl

  joining : (u : ℕ) (b c : Bool) → nat_lt (suc u) g.threads ≡ b → set.contains g.ended (suc u) ≡ c → Decided (Joins (pos (suc u)))
  joining u true true e f = inl (act.Join (suc u), plain_possible (Joins (pos (suc u))) (act.Join (suc u)) null tt (ap (λ b. when b null) (int_self (pos (suc u)))) f tt)
  joining u true false e f =
      inr (ap (λ b. cond b (cond (set.contains g.ended (suc u)) (Some (act.Join (suc u))) None) (Some (act.Fault fault.Thread))) e ∙ ap (λ b. cond b (Some (act.Join (suc u))) None) f)
  joining u false c e f = inl (act.Fault fault.Thread, fault_possible (Joins (pos (suc u))) fault.Thread refl refl (λ w is lt. beyond w (one_number u w is) lt))
    where
      one_number : (u w : ℕ) → pos (suc u) ≡ pos (suc w) → u ≡ w
      one_number u w is = cc

      beyond : (w : ℕ) → u ≡ w → suc w < g.threads → ⊥
      beyond w is lt = omega (arith, is, lt, ltb-false (suc u) g.threads e)

  module _ (used : IsLeastUnused g.blocks k) (few : k < 2 ^ 32) (some : 0 < g.threads) where
    unused : map.get g.blocks k ≡ None
    unused = used.0

    making : (cells : ℤ) (i : ItemId) (b : Bool) → room g.blocks cells ≡ b → Some_entry (Mallocs cells i)
    making cells i true e =
        let fits : HasRoom g.blocks cells = room_is g.blocks cells e in (
          act.Malloc cells (block_at k),
          plain_possible (Mallocs cells i) (act.Malloc cells (block_at k)) (block_at k) tt (ap (λ b. when b (block_at k)) (int_self cells))
              (inr (k, fits.0, refl, fits.1, unused, few, fits.2)) (inl (fits, (k, used, refl))),
        )
    making cells i false e = (
      act.Malloc cells null,
      plain_possible (Mallocs cells i) (act.Malloc cells null) null tt (ap (λ b. when b null) (int_self cells)) (inl refl)
          (inr ((λ fits. both_ways (room g.blocks cells) e (room_so g.blocks cells fits)), refl)),
    )

    creating : (f : _) (x : Value) → (g.threads ≡ 64) ⊎ ((g.threads < 64) ⊎ (64 < g.threads)) → Decided (Creates f x)
    creating f x (inl is) = inl (act.Fault fault.Thread, fault_possible (Creates f x) fault.Thread refl refl is)
    creating f x (inr (inl lt)) =
        inl (
          act.Create g.threads,
          plain_possible (Creates f x) (act.Create g.threads) (v.Num (pos g.threads)) tt
              (ap (λ b. when b (v.Num (pos g.threads))) (and_from (nat_lt 0 g.threads) (nat_lt g.threads 64) (lt-ltb 0 g.threads some) (lt-ltb g.threads 64 lt))) (refl, lt) tt,
        )
    creating f x (inr (inr more)) = inr (none g.threads more)
      where
        none : (n : ℕ) → 64 < n → create_entry n ≡ None
        none n lt =
            ap (λ b. cond b (Some (act.Create n)) (cond (n == 64) (Some (act.Fault fault.Thread)) None)) (le-ltb n 64 (omega (arith, lt)))
            ∙ ap (λ b. cond b (Some (act.Fault fault.Thread)) None) (ne_eqb n 64 (λ e. omega (arith, e, lt)))

    pub decide : (w : Want) → Decided w
    decide (Reads at by kd s) = inl (reading at by kd s (reached g.blocks at by) refl)
    decide (Writes at by x s) = inl (writing at by x s (reached g.blocks at by) refl)
    decide (Locks m s i) = locking m s i (map.get g.owners m.0) refl (Site (Locks m s i)) refl
    decide (Unlocks m) = inl (unlocking m (is_owner t (map.get g.owners m.0)) refl)
    decide (Mallocs cells i) = inl (making cells i (room g.blocks cells) refl)
    decide (Frees x s) = inl (freeing x s (can_free g.blocks x) refl)
    decide (Prints text) = inl (act.Print text, plain_possible (Prints text) (act.Print text) null tt (ap (λ b. when b null) ((bytes_eq-Decides text text).1 refl)) tt tt)
    decide (Creates f x) = creating f x (cases_order g.threads 64)
    decide (Joins (pos zero)) = inl (act.Fault fault.Thread, fault_possible (Joins (pos zero)) fault.Thread refl refl (λ u is lt. cc))
    decide (Joins (pos (suc u))) = joining u (nat_lt (suc u) g.threads) (set.contains g.ended (suc u)) refl refl
    decide (Joins (negsuc n)) = inl (act.Fault fault.Thread, fault_possible (Joins (negsuc n)) fault.Thread refl refl (λ u is lt. cc))
    decide (Calls f xs) = inl (act.Call f, plain_possible (Calls f xs) (act.Call f) null tt (number_self f.0) tt tt)
    decide (Returns x) = inl (act.Return x, plain_possible (Returns x) (act.Return x) null tt (ap (λ b. when b null) (same_self x)) tt tt)
    decide Turns = inl (act.Turn, plain_possible Turns act.Turn null tt refl tt tt)
    decide Ends = inl (act.End, plain_possible Ends act.End null tt refl tt tt)
    decide (Fails s) = inl (failing_possible (Fails s) fault.Assert refl tt tt (Site (Fails s)) refl)
    decide (Faults fault.Arith) = inl (act.Fault fault.Arith, fault_possible (Faults fault.Arith) fault.Arith refl refl tt)
    decide (Faults _) = inr refl
    decide Saves = inl (act.Save, record { after = fresh (go null); own = refl; allowed = tt; due = tt; chosen = tt })
    decide Ended = inr refl
