-- What each step of a run keeps: threads are counted and few, mutexes stay, and a thread that hasn't ended can go on.
use Rattle.std.proofs.Common.{zero, suc, ◌≡◌, ℕ, ◌+◌, ◌≤◌, false, List, [], ◌∷◌, ◌++◌, length, Some, refl, sym, ap, ◌∙◌, subst, arith, inl, inr, length-append, rules}
use Rattle.std.specs.Prelude.{◌⊎◌, slice_get, slice_set}
use Rattle.std.specs.Ordering.{nat_cmp}
use Rattle.std.specs.FinSet as set
use Rattle.std.specs.FinSet.{members}
use Rattle.ca_model.specs.declared.values.Given.{Given}
use Rattle.ca_model.specs.declared.values.Given.TheVariants as given
use Rattle.ca_model.specs.declared.values.Event.{Event}
use Rattle.ca_model.specs.declared.values.EventAct.{EventAct}
use Rattle.ca_model.specs.declared.values.EventAct.TheVariants as act
use Rattle.ca_model.specs.Asks.{Want}
use Rattle.ca_model.specs.Shared.{Shared, Open, effect, give, give_all, IsLegal}
use Rattle.ca_model.specs.Machine.{Rules, State, Step, Run, started, created}
use Rattle.ca_model.proofs.Law.{same_threads, count_after, get_either, get_set, length_set, one_of, same_parts}
use Rattle.ca_model.specs.Arith.{null}
use Rattle.ca_model.specs.Codes.{Typed}
use Rattle.ca_model.specs.Opening.{opening}
use Rattle.std.proofs.lemmas.Option.{slice_get_within}
use Rattle.ca_model.proofs.FramesInPlace.{IsLast}
use Rattle.ca_model.proofs.Choices.{IsRunning}

pub same_mutexes : (gs : List Given) (s : Shared) → (give_all s gs).mutexes ≡ s.mutexes
same_mutexes [] s = refl
same_mutexes (given.Mutex m ∷ gs) s = same_mutexes gs (give s (given.Mutex m))
same_mutexes (given.Block b ∷ gs) s = same_mutexes gs (give s (given.Block b))

pub same_ended : (gs : List Given) (s : Shared) → (give_all s gs).ended ≡ s.ended
same_ended [] s = refl
same_ended (given.Mutex m ∷ gs) s = same_ended gs (give s (given.Mutex m))
same_ended (given.Block b ∷ gs) s = same_ended gs (give s (given.Block b))

pub mutexes_after : (s : Shared) (t : ℕ) (a : EventAct) → (effect s t a).mutexes ≡ s.mutexes
mutexes_after s t (act.Retry site gs) = same_mutexes gs s
mutexes_after s t _ = refl

pub few_after : (s : Shared) (t : ℕ) (a : EventAct) → IsLegal s t a → s.threads ≤ 64 → (effect s t a).threads ≤ 64
few_after s t (act.Create u) legal few = omega (arith, legal.allowed.0, legal.allowed.1)
few_after s t (act.Retry site gs) legal few = omega (arith, same_threads gs s)
few_after s t _ legal few = few

end_more : (e : set.FinSet nat_cmp) (t u : ℕ) → set.contains (set.insert e t) u ≡ false → set.contains e u ≡ false
end_more e t u h = grind (members, rules)

end_here : (e : set.FinSet nat_cmp) (t : ℕ) → set.contains (set.insert e t) t ≡ false → ⊥
end_here e t h = grind (members, rules)

ended_before : (s : Shared) (t u : ℕ) (a : EventAct) → set.contains (effect s t a).ended u ≡ false → set.contains s.ended u ≡ false
ended_before s t u act.End h = end_more s.ended t u h
ended_before s t u (act.Retry site gs) h = sym (ap (λ e. set.contains e u) (same_ended gs s)) ∙ h
ended_before s t u _ h = h

none_after_last : (s : Shared) (t : ℕ) (a : EventAct) → (effect s t a).phase ≡ Open → set.contains (effect s t a).ended t ≡ false → IsLast a → ⊥
none_after_last s t act.End is h last = end_here s.ended t h
none_after_last s t (act.Fault k) is h last = cc
none_after_last s t _ is h last = absurd last

module _ {T : Type 0} (r : Rules T) (Fine Live : T → Type 0) where
  made_fine : (w : Want) (a : EventAct) (k : ℕ) (z : T) → slice_get (created r a w) k ≡ Some z → slice_get (started r w) k ≡ Some z
  made_fine w (act.Create u) k z h = h
  made_fine w _ k z h = cc

  pub record IsKept (mutexes : ℕ) (s : State T) : Type 0 where
    pub count : s.shared.threads ≡ length s.threads
    pub few : s.shared.threads ≤ 64
    pub same : s.shared.mutexes ≡ mutexes
    pub fine : (t : ℕ) (x : T) → slice_get s.threads t ≡ Some x → Fine x
    pub live : s.shared.phase ≡ Open → (t : ℕ) (x : T) → slice_get s.threads t ≡ Some x → set.contains s.shared.ended t ≡ false → Live x

  module _ (sound : (t y : T) (u : ℕ) → r.advance t (act.Create u) ≡ Some y → length (started r (r.want t)) ≡ 1)
      (advances : (x : T) (a : EventAct) (y : T) → Fine x → r.advance x a ≡ Some y → Fine y × (Live y ⊎ IsLast a))
      (starts : (x : T) (k : ℕ) (z : T) → Fine x → slice_get (started r (r.want x)) k ≡ Some z → Fine z × Live z) where
    still_live : (s : Shared) (t : ℕ) (a : EventAct) (y : T) → (effect s t a).phase ≡ Open → set.contains (effect s t a).ended t ≡ false → Live y ⊎ IsLast a → Live y
    still_live s t a y is h (inl l) = l
    still_live s t a y is h (inr last) = absurd (none_after_last s t a is h last)

    kept_step : (mutexes : ℕ) (s new : State T) (e : Event) → IsKept mutexes s → Step r s e new → IsKept mutexes new
    kept_step mutexes s new e k st =
        let ts = s.threads in
        let w = r.want st.before in
        let cs = created r e.act w in
        let sh = effect s.shared e.thread e.act in
        let moved = slice_set ts e.thread st.after in
        let before : Fine st.before = k.fine e.thread st.before st.stands in
        let goes = advances st.before e.act st.after before st.own in
        let grown : length (moved ++ cs) ≡ length ts + length cs = omega (arith, length-append moved cs, length_set ts e.thread st.after) in
        let counted : sh.threads ≡ s.shared.threads + length cs = count_after r sound s.shared e.thread e.act st.before st.after st.own in
        let there : IsKept mutexes (record { shared = sh; threads = moved ++ cs }) = record {
          count = omega (arith, counted, k.count, grown);
          few = few_after s.shared e.thread e.act st.legal k.few;
          same = mutexes_after s.shared e.thread e.act ∙ k.same;
          fine = λ u z h. elim (get_either moved cs u z h) [
            | inl l ↦ elim (get_set ts e.thread u st.after z l) [
              | inl (is, yz) ↦ subst Fine (one_of st.after z yz) goes.0
              | inr (ne, g) ↦ k.fine u z g
            ]
            | inr (j, is, g) ↦ (starts st.before j z before (made_fine w e.act j z g)).0
          ];
          live = λ is u z h on. elim (get_either moved cs u z h) [
            | inl l ↦ elim (get_set ts e.thread u st.after z l) [
              | inl (at, yz) ↦ subst Live (one_of st.after z yz) (still_live s.shared e.thread e.act st.after is (ap (set.contains sh.ended) at ∙ on) goes.1)
              | inr (ne, g) ↦ k.live st.legal.run u z g (ended_before s.shared e.thread u e.act on)
            ]
            | inr (j, at, g) ↦ (starts st.before j z before (made_fine w e.act j z g)).1
          ];
        } in
        subst (IsKept mutexes) (same_parts r sound new sh (moved ++ cs) st.shared st.threads) there

    pub kept_by_run : (mutexes : ℕ) (es : List Event) (s new : State T) → IsKept mutexes s → Run r s es new → IsKept mutexes new
    kept_by_run mutexes [] s new k run = subst (IsKept mutexes) (sym run) k
    kept_by_run mutexes (e ∷ es) s new k (mid, st, run) = kept_by_run mutexes es mid new (kept_step mutexes s mid e k st) run

  -- the opening is kept
  first : (x : T) (t : ℕ) (y : T) → slice_get (x ∷ []) t ≡ Some y → (P : T → Type 0) → P x → P y
  first x zero y at P h = subst P (one_of x y at) h
  first x (suc t) y at P h = cc

  pub opening_kept : (p : Typed) → Fine (r.start p.main null) → Live (r.start p.main null) → IsKept p.mutexes (opening r p)
  opening_kept p fine live = record {
    count = omega arith;
    few = omega arith;
    same = refl;
    fine = λ t x at. first (r.start p.main null) t x at Fine fine;
    live = λ is t x at on. first (r.start p.main null) t x at Live live;
  }

  -- a thread of a state that is kept can make entries until it ends
  pub kept_running : (mutexes : ℕ) (s : State T) (t : ℕ) (x : T) → IsKept mutexes s → s.shared.phase ≡ Open → slice_get s.threads t ≡ Some x → set.contains s.shared.ended t ≡ false → IsRunning s.shared t
  kept_running mutexes s t x k run at on = record { run = run; there = omega (arith, k.count, slice_get_within s.threads t x at); going = on; few = k.few }
