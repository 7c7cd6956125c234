-- A thread of the hardened machine makes an entry where its want is answered or fails, and none where it waits.
use Rattle.std.proofs.Common.{◌≡◌, ℕ, suc, Bool, true, false, List, [], Option, Some, None, refl, sym, ap, ◌∙◌, subst, inl, inr}
use Rattle.std.specs.Prelude.{◌⊎◌, ◌&&◌, pos, is_some, if◌then◌else◌}
use Rattle.std.specs.FinMap as map
use Rattle.std.specs.FinSet as set
use Rattle.std.proofs.lemmas.Bool.Decides.{Decides-eqb, Decides-int_eq}
use Rattle.ca_tree.specs.declared.numbers.SiteId.{SiteId}
use Rattle.ca_model.specs.declared.values.Value.{Value}
use Rattle.ca_model.specs.declared.values.Given.{Given}
use Rattle.ca_model.specs.declared.values.FaultKind.{FaultKind}
use Rattle.ca_model.specs.declared.values.FaultKind.TheVariants as fault
use Rattle.ca_model.specs.declared.values.EventAct.{EventAct}
use Rattle.ca_model.specs.declared.values.EventAct.TheVariants as act
use Rattle.ca_model.specs.Asks.{Want, Reads, Writes, Locks, Frees, Joins, Saves}
use Rattle.ca_model.specs.Frames.{Code}
use Rattle.ca_model.specs.Private.{Thread, Stand, stand, answer, may_fault, after_entry, going_on}
use Rattle.ca_model.specs.Shared.{Shared, Allows, IsLegal, FaultIsDue, IsDue}
use Rattle.ca_model.specs.Hardened.{Hardened, Saved, hardened, hardened_advance, HardenedDue, retry_site, may_retry, site_of, with_frames, took, taking, back, retried, is_failing, is_part, latest_first, FailsNow, NamesHeld, if_saves}
use Rattle.ca_model.specs.Waits.{WaitsAt, HardenedWaits}
use Rattle.ca_model.specs.ComingEntries.{gives_of}
use Rattle.ca_model.proofs.Offers.{Offer}
use Rattle.ca_model.proofs.FramesInPlace.{entry_is}
use Rattle.ca_model.proofs.HardenedInPlace.{again, moved, Moved, Saving, Going_back, Stepping}
use Rattle.ca_model.proofs.Choices.{IsRunning, Choice, Answers, Fails_by, Must_wait, legal, count_of}
use Rattle.ca_model.proofs.Entries.{when_is}
use Rattle.ca_model.proofs.Retries.{gives_part, gives_held, gives_named}

-- neither a fault nor a retry answers a want
pub no_fault_answers : (w : Want) (k : FaultKind) (x : Value) → answer w (act.Fault k) ≡ Some x → ⊥
no_fault_answers Saves k x e = cc
no_fault_answers _ k x e = cc

pub no_retry_answers : (w : Want) (site : SiteId) (gs : List Given) (x : Value) → answer w (act.Retry site gs) ≡ Some x → ⊥
no_retry_answers Saves site gs x e = cc
no_retry_answers _ site gs x e = cc

no_retry_after : (st : Stand) (site : SiteId) (gs : List Given) (x : Thread) → after_entry st (act.Retry site gs) ≡ Some x → ⊥
no_retry_after st site gs x e =
    elim (entry_is st (act.Retry site gs) x e) [ inl (k, same) ↦ cc | inr (y, ans, same) ↦ no_retry_answers st.want site gs y ans ]

save_answers : (w : Want) (x : Value) → answer w act.Save ≡ Some x → w ≡ Saves
save_answers Saves x e = refl
save_answers _ x e = cc

with_some : (o : Option Thread) (gs : List Given) (s : Option Saved) (t : Thread) → o ≡ Some t → with_frames o gs s ≡ Some (record { frames = t; saved = took gs s })
with_some o gs s t e = ap (λ o. with_frames o gs s) e

-- a failing site fails now, and so does a lock that is waited for
fails_now : (s : Shared) (t : ℕ) (w : Want) (k : FaultKind) → is_failing k ≡ true → may_fault w k ≡ true → FaultIsDue s t w k → FailsNow s t w
fails_now s t (Reads at by k site) fault.Pointer f m d = d
fails_now s t (Reads at by k site) _ f m d = cc
fails_now s t (Writes at by x site) fault.Pointer f m d = d
fails_now s t (Writes at by x site) _ f m d = cc
fails_now s t (Frees x site) fault.Pointer f m d = d
fails_now s t (Frees x site) _ f m d = cc
fails_now s t (Locks n site i) k f m d = cc
fails_now s t _ k f m d = tt

waits_fail : (s : Shared) (t : ℕ) (w : Want) → WaitsAt s w → FailsNow s t w
waits_fail s t (Locks m site i) h = h
waits_fail s t (Joins n) h = tt
waits_fail s t _ h = absurd h

has_saved : (code : Code) (o : Option SiteId) (s : Option Saved) (site : SiteId) → may_retry code o s ≡ Some site → (sv : Saved) × (s ≡ Some sv)
has_saved code None s site e = cc
has_saved code (Some at) None site e = cc
has_saved code (Some at) (Some sv) site e = (sv, refl)

no_place_for_a_retry : (r : Option SiteId) (k : FaultKind) → (r ≡ None) ⊎ (is_failing k ≡ false) → (is_some r && is_failing k) ≡ false
no_place_for_a_retry r k (inl e) = ap (λ r. is_some r && is_failing k) e
no_place_for_a_retry None k (inr e) = refl
no_place_for_a_retry (Some site) k (inr e) = e

back_with : (sv : Saved) (site : SiteId) (gs : List Given) → is_part gs (latest_first sv.taken) ≡ true → retried (Some site) (Some sv) site gs ≡ Some (again sv site)
back_with sv site gs e =
    ap (λ b. if b then back (Some sv) site gs else None) ((Decides-eqb site.0 site.0).1 refl)
    ∙ ap (λ b. if b then Some (again sv site) else None) e

-- where a thread waits, nothing answers or fails
no_answer : (s : Shared) (t : ℕ) (w : Want) (a : EventAct) (y : Value) → WaitsAt s w → answer w a ≡ Some y → Allows s t a → ⊥
no_answer s t (Joins n) (act.Join u) y h e allowed =
    let same : u ≡ suc h.0 = ap count_of (sym ((Decides-int_eq n (pos u)).0 (when_is _ _ _ e)) ∙ h.1) in
    let both : true ≡ false = sym allowed ∙ (ap (set.contains s.ended) same ∙ h.3) in
    cc
no_answer s t (Joins n) _ y h e allowed = cc
no_answer s t (Locks m site i) (act.Lock n) y h e allowed =
    let same : m.0 ≡ n.0 = (Decides-eqb m.0 n.0).0 (when_is _ _ _ e) in
    let both : None ≡ Some h.0 = sym allowed.1 ∙ (ap (map.get s.owners) (sym same) ∙ h.1) in
    cc
no_answer s t (Locks m site i) _ y h e allowed = cc
no_answer s t _ a y h e allowed = absurd h

no_fault : (s : Shared) (t : ℕ) (w : Want) (k : FaultKind) → WaitsAt s w → may_fault w k ≡ true → FaultIsDue s t w k → ⊥
no_fault s t (Joins n) fault.Thread h m d = d h.0 h.1 h.2
no_fault s t (Joins n) _ h m d = cc
no_fault s t (Locks n site i) k h m d = cc
no_fault s t _ k h m d = absurd h

-- so no own entry of the frames is possible
pub no_entry : (s : Shared) (t : ℕ) (stand : Stand) (a : EventAct) (x : Thread) → WaitsAt s stand.want → after_entry stand a ≡ Some x → Allows s t a → IsDue s t stand.want a → ⊥
no_entry s t stand a x h e allowed due =
    elim (entry_is stand a x e) [
      | inl (k, same) ↦ no_fault s t stand.want k.kind h k.may (subst (IsDue s t stand.want) k.is due)
      | inr (y, ans, same) ↦ no_answer s t stand.want a y h ans allowed
    ]

module _ (code : Code) (s : Shared) (t : ℕ) (h : Hardened) where
  abbrev st : Stand
  st = stand code h.frames

  framed : (a : EventAct) (x : Value) → answer st.want a ≡ Some x → going_on st (answer st.want a) ≡ Some (st.go x)
  framed a x e = ap (going_on st) e

  -- an answer to what it wants
  pub answers_move : (a : EventAct) (x : Value) → answer st.want a ≡ Some x → IsLegal s t a → Offer (hardened code) s t h
  answers_move act.Save x e l =
      record { entry = act.Save; next = _; own = ap (λ w. if_saves w st.go) (save_answers st.want x e); legal = l; due = tt }
  answers_move (act.Retry site gs) x e l = absurd (no_retry_answers st.want site gs x e)
  answers_move (act.Fault k) x e l = absurd (no_fault_answers st.want k x e)
  answers_move a x e l =
      record { entry = a; next = _; own = with_some (going_on st (answer st.want a)) (taking code st.want a) h.saved (st.go x) (framed a x e); legal = l; due = tt }

  -- a fault, where no retry has its place
  fault_moves : IsRunning s t → (k : FaultKind) → may_fault st.want k ≡ true → FaultIsDue s t st.want k → (retry_site code h ≡ None) ⊎ (is_failing k ≡ false) → Offer (hardened code) s t h
  fault_moves running k may due none = record {
    entry = act.Fault k;
    next = _;
    own =
        ap (λ b. if b then None else with_frames (after_entry st (act.Fault k)) [] h.saved) (no_place_for_a_retry (retry_site code h) k none)
        ∙ with_some (after_entry st (act.Fault k)) [] h.saved [] (ap (λ b. if b then Some [] else None) may);
    legal = legal s t running (act.Fault k) tt;
    due = due;
  }

  -- a retry, which gives back all that is held
  pub retry_moves : IsRunning s t → (site : SiteId) → retry_site code h ≡ Some site → FailsNow s t st.want → Offer (hardened code) s t h
  retry_moves running site at fails =
      let saved = has_saved code (site_of st.want) h.saved site at in
      let sv = saved.0 in
      let gs = gives_of s t sv in
      record {
        entry = act.Retry site gs;
        next = again sv site;
        own = ap (λ r. retried r h.saved site gs) at ∙ (ap (λ o. retried (Some site) o site gs) saved.1 ∙ back_with sv site gs (gives_part s t sv));
        legal = legal s t running (act.Retry site gs) (gives_held s t sv);
        due = (fails, subst (NamesHeld s t gs) (sym saved.1) (gives_named s t sv));
      }

  fails_by : IsRunning s t → (k : FaultKind) → may_fault st.want k ≡ true → FaultIsDue s t st.want k → (b : Bool) → is_failing k ≡ b → (r : Option SiteId) → retry_site code h ≡ r → Offer (hardened code) s t h
  fails_by running k may due false f r at = fault_moves running k may due (inr f)
  fails_by running k may due true f None at = fault_moves running k may due (inl at)
  fails_by running k may due true f (Some site) at = retry_moves running site at (fails_now s t st.want k f may due)

  waits_by : IsRunning s t → WaitsAt s st.want → (r : Option SiteId) → retry_site code h ≡ r → Offer (hardened code) s t h ⊎ HardenedWaits code s h
  waits_by running w None at = inr (w, at)
  waits_by running w (Some site) at = inl (retry_moves running site at (waits_fail s t st.want w))

  pub moves_or_waits : IsRunning s t → Choice s t st.want → Offer (hardened code) s t h ⊎ HardenedWaits code s h
  moves_or_waits running (Answers a x e l) = inl (answers_move a x e l)
  moves_or_waits running (Fails_by k may due) = inl (fails_by running k may due (is_failing k) refl (retry_site code h) refl)
  moves_or_waits running (Must_wait w) = waits_by running w (retry_site code h) refl

  plain_due : (a : EventAct) (x : Thread) → after_entry st a ≡ Some x → HardenedDue code s t h a → IsDue s t st.want a
  plain_due (act.Retry site gs) x e due = absurd (no_retry_after st site gs x e)
  plain_due a x e due = due

  -- and never both
  by_move : (a : EventAct) (x : Hardened) → Moved code h a x → IsLegal s t a → HardenedDue code s t h a → HardenedWaits code s h → ⊥
  by_move a x (Saving is w e) l due waits = subst (WaitsAt s) w waits.0
  by_move a x (Going_back site gs is e) l due waits = let never : retried None h.saved site gs ≡ Some x = sym (ap (λ r. retried r h.saved site gs) waits.1) ∙ e in cc
  by_move a x (Stepping y gs is e) l due waits = no_entry s t st a y waits.0 is l.allowed (plain_due a y is due)

  pub not_both : (a : EventAct) (x : Hardened) → hardened_advance code h a ≡ Some x → IsLegal s t a → HardenedDue code s t h a → HardenedWaits code s h → ⊥
  not_both a x e l due waits = by_move a x (moved code h a x e) l due waits
