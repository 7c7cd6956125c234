-- In a run of the hardened machine: a thread of which a retry follows with no save between is on the way to it.
use Rattle.std.proofs.Common.{◌≡◌, ◌≢◌, ℕ, Bool, true, false, cond, List, [], ◌∷◌, Option, Some, None, refl, sym, ap, ◌∙◌, subst, inl, inr}
use Rattle.std.specs.Prelude.{◌&&◌, ◌==◌, if◌then◌else◌, slice_get, is_some}
use Rattle.std.proofs.lemmas.Bool.{eq-eqb}
use Rattle.std.proofs.lemmas.Bool.Decides.{eqb_tells}
use Rattle.ca_tree.specs.declared.numbers.SiteId.{SiteId}
use Rattle.ca_model.specs.declared.plan.Plan.{Plan}
use Rattle.ca_model.specs.declared.values.Given.{Given}
use Rattle.ca_model.specs.declared.values.Event.{Event}
use Rattle.ca_model.specs.declared.values.EventAct.{EventAct}
use Rattle.ca_model.specs.declared.values.EventAct.TheVariants as act
use Rattle.ca_model.specs.Begun.{InProgress, starts, goes_on}
use Rattle.ca_model.specs.Frames.{Code}
use Rattle.ca_model.specs.Private.{Thread, stand, after_entry}
use Rattle.ca_model.specs.Machine.{State, Step, Run}
use Rattle.ca_model.specs.Projection.{is_mark, if_mark, abandoned}
use Rattle.ca_model.specs.Hardened.{Hardened, Saved, hardened, hardened_advance, retry_site, taking, took, back, retried, is_failing, is_part, latest_first}
use Rattle.ca_model.specs.Codes.{Typed, code_of}
use Rattle.ca_model.specs.WellFormed.{IsWellFormed}
use Rattle.ca_model.specs.Plans.{IsSound}
use Rattle.ca_model.proofs.OneEntry.{if_some}
use Rattle.ca_model.proofs.Law.{one_of}
use Rattle.ca_model.proofs.Creates.{hardened_creates}
use Rattle.ca_model.proofs.FramesInPlace.{HasFrames}
use Rattle.ca_model.proofs.HardenedInPlace.{with_is, again, IsInPlace, advance_in_place, started_in_place}
use Rattle.ca_model.proofs.KeptByRuns.{IsKept, kept_by_run, opening_kept}
use Rattle.ca_model.specs.Opening.{opening}
use Rattle.ca_model.specs.Arith.{null}
use Rattle.ca_erasure.proofs.Moving.{stands_after, others_stay}
use Rattle.ca_erasure.proofs.Attempts.{WillRetry, entry_back, will_retry}

-- the entries: a save, a retry, or none of both
pub data Kinded (a : EventAct) : Type 0 where
  A_save : a ≡ act.Save → Kinded a
  A_retry : (site : SiteId) (gs : List Given) → a ≡ act.Retry site gs → Kinded a
  A_plain : is_mark a ≡ false → Kinded a

pub kinded : (a : EventAct) → Kinded a
kinded act.Save = A_save refl
kinded (act.Retry site gs) = A_retry site gs refl
kinded _ = A_plain refl

pub if_plain : (a : EventAct) (b : Bool) → is_mark a ≡ false → if_mark a b ≡ b
if_plain act.Save b h = absurd cc
if_plain (act.Retry site gs) b h = absurd cc
if_plain _ b h = refl

-- which thread retries
pub ab_own : (e : Event) (es : List Event) → abandoned e.thread (e ∷ es) ≡ if_mark e.act (abandoned e.thread es)
ab_own e es = ap (λ b. cond b (if_mark e.act (abandoned e.thread es)) (abandoned e.thread es)) (eq-eqb e.thread e.thread refl)

pub ab_other : (e : Event) (es : List Event) (q : ℕ) → q ≢ e.thread → abandoned q (e ∷ es) ≡ abandoned q es
ab_other e es q ne = elim (eqb_tells e.thread q) [
  | inl (b, same) ↦ absurd (ne (sym same))
  | inr (b, other) ↦ ap (λ b. cond b (if_mark e.act (abandoned q es)) (abandoned q es)) b
]

-- a step of its frames, with what it takes
abbrev pub TakesSo : Code → Hardened → EventAct → List Given → Type 0
TakesSo code h (act.Fault k) gs = Unit {0}
TakesSo code h a gs = gs ≡ taking code (stand code h.frames).want a

fault_if : (b : Bool) (o : Option Hardened) (x : Hardened) → (if b then None else o) ≡ Some x → o ≡ Some x
fault_if true o x h = cc
fault_if false o x h = h

abbrev pub Stepped : Code → Hardened → EventAct → Hardened → Type 0
Stepped code h a x = (fs : Thread) × (gs : List Given) × (after_entry (stand code h.frames) a ≡ Some fs) × (record { frames = fs; saved = took gs h.saved } ≡ x) × TakesSo code h a gs

pub stepped : (code : Code) (h : Hardened) (a : EventAct) (x : Hardened) → hardened_advance code h a ≡ Some x → is_mark a ≡ false → Stepped code h a x
stepped code h act.Save x e m = absurd cc
stepped code h (act.Retry site gs) x e m = absurd cc
stepped code h (act.Fault k) x e m =
    let parts = with_is (after_entry (stand code h.frames) (act.Fault k)) [] h.saved x (fault_if (is_some (retry_site code h) && is_failing k) _ x e) in
    (parts.0, [], parts.1, parts.2, tt)
stepped code h a x e m =
    let parts = with_is (after_entry (stand code h.frames) a) (taking code (stand code h.frames).want a) h.saved x e in
    (parts.0, taking code (stand code h.frames).want a, parts.1, parts.2, refl)

-- a retry
pub record Retried (code : Code) (h : Hardened) (site : SiteId) (gs : List Given) (x : Hardened) : Type 0 where
  pub saved : Saved
  pub at : SiteId
  pub may : retry_site code h ≡ Some at
  pub was : h.saved ≡ Some saved
  pub part : is_part gs (latest_first saved.taken) ≡ true
  pub goes : again saved site ≡ x

back_so : (s : Option Saved) (site : SiteId) (gs : List Given) (x : Hardened) → back s site gs ≡ Some x → (sv : Saved) × (s ≡ Some sv) × (is_part gs (latest_first sv.taken) ≡ true) × (again sv site ≡ x)
back_so None site gs x h = absurd cc
back_so (Some sv) site gs x h = let r = if_some (is_part gs (latest_first sv.taken)) (Some (again sv site)) x h in (sv, refl, r.0, one_of (again sv site) x r.1)

retried_by : (code : Code) (h : Hardened) (r : Option SiteId) (site : SiteId) (gs : List Given) (x : Hardened) → retry_site code h ≡ r → retried r h.saved site gs ≡ Some x → Retried code h site gs x
retried_by code h None site gs x is e = absurd cc
retried_by code h (Some at) site gs x is e =
    let r = back_so h.saved site gs x (if_some (at.0 == site.0) (back h.saved site gs) x e).1 in
    record { saved = r.0; at = at; may = is; was = r.1; part = r.2; goes = r.3 }

pub retried_so : (code : Code) (h : Hardened) (site : SiteId) (gs : List Given) (x : Hardened) → hardened_advance code h (act.Retry site gs) ≡ Some x → Retried code h site gs x
retried_so code h site gs x e = retried_by code h (retry_site code h) site gs x refl e

took_some : (gs : List Given) (o : Option Saved) (sv : Saved) → took gs o ≡ Some sv → (old : Saved) × (o ≡ Some old)
took_some gs None sv h = absurd cc
took_some gs (Some old) sv h = (old, refl)

module _ (p : Typed) (plan : Plan) where
  abbrev hardened_code : Code
  hardened_code = code_of p plan

  abbrev pub HKept : State Hardened → Type 0
  HKept s = IsKept (hardened hardened_code) (IsInPlace hardened_code (InProgress hardened_code)) (λ h. HasFrames h.frames) p.mutexes s

  pub kept_on : (s mid : State Hardened) (e : Event) → HKept s → Step (hardened hardened_code) s e mid → HKept mid
  kept_on s mid e k st =
      kept_by_run (hardened hardened_code) (IsInPlace hardened_code (InProgress hardened_code)) (λ h. HasFrames h.frames) (hardened_creates hardened_code)
      (λ h a x all e. advance_in_place hardened_code (InProgress hardened_code) (λ f w x g is more. goes_on g is more x) (λ f g xs h is. starts g xs) h a x all e)
      (λ h k z all e. started_in_place hardened_code (InProgress hardened_code) (λ f g x h is. starts g (x ∷ [])) h k z all e)
      p.mutexes (e ∷ []) s mid k (mid, st, refl)

  pub hardened_opens : HKept (opening (hardened hardened_code) p)
  hardened_opens = opening_kept (hardened hardened_code) (IsInPlace hardened_code (InProgress hardened_code)) (λ h. HasFrames h.frames) p ((starts p.main (null ∷ []), tt), tt) tt

module _ (p : Typed) (wf : IsWellFormed p) (plan : Plan) (sound : IsSound p plan) where
  abbrev code : Code
  code = code_of p plan

  abbrev pub IsDoomed : Hardened → Type 0
  IsDoomed h = WillRetry p wf plan sound h.frames × ((sv : Saved) × (h.saved ≡ Some sv))

  -- back over a step
  back_over : (h x : Hardened) (a : EventAct) → IsInPlace code (InProgress code) h → is_mark a ≡ false → Stepped code h a x → IsDoomed x → IsDoomed h
  back_over h x a all m (fs, gs, e, is, so) (will, (sv, saved)) =
      let r = entry_back p wf plan sound h.frames a fs e all.0 m (subst (λ (y : Hardened). WillRetry p wf plan sound y.frames) (sym is) will) in
      (r.0, took_some gs h.saved sv (ap (λ (y : Hardened). y.saved) is ∙ saved))

  dooms : (a : EventAct) (h x : Hardened) (rest : Bool) → Kinded a → hardened_advance code h a ≡ Some x → IsInPlace code (InProgress code) h → if_mark a rest ≡ true → (rest ≡ true → IsDoomed x) → IsDoomed h
  dooms a h x rest (A_save is) e all b more = absurd (let no : false ≡ true = ap (λ a. if_mark a rest) (sym is) ∙ b in cc)
  dooms a h x rest (A_retry site gs is) e all b more =
      let r = retried_so code h site gs x (ap (hardened_advance code h) (sym is) ∙ e) in
      (will_retry p wf plan sound h r.at all.0 r.may, (r.saved, r.was))
  dooms a h x rest (A_plain m) e all b more = back_over h x a all m (stepped code h a x e m) (more (sym (if_plain a rest m) ∙ b))

  pub doomed : (es : List Event) (s new : State Hardened) → HKept p plan s → Run (hardened (code_of p plan)) s es new → (t : ℕ) (h : Hardened) → abandoned t es ≡ true → slice_get s.threads t ≡ Some h → IsDoomed h
  doomed [] s new k run t h b at = absurd cc
  doomed (e ∷ es) s new k (mid, st, run) t h b at =
      let later : (q : ℕ) (x : Hardened) → abandoned q es ≡ true → slice_get mid.threads q ≡ Some x → IsDoomed x = λ q x c here. doomed es mid new (kept_on p plan s mid e k st) run q x c here in
      elim (eqb_tells t e.thread) [
        | inl (n, same) ↦
            let own : if_mark e.act (abandoned e.thread es) ≡ true = sym (ab_own e es) ∙ (ap (λ q. abandoned q (e ∷ es)) (sym same) ∙ b) in
            let is : st.before ≡ h = one_of st.before h (sym st.stands ∙ (ap (slice_get s.threads) (sym same) ∙ at)) in
            subst IsDoomed is (dooms e.act st.before st.after (abandoned e.thread es) (kinded e.act) st.own (k.fine e.thread st.before st.stands) own (λ c. later e.thread st.after c (stands_after (hardened code) s mid e st)))
        | inr (n, other) ↦ later t h (sym (ab_other e es t other) ∙ b) (others_stay (hardened code) s mid e st t h other at)
      ]
