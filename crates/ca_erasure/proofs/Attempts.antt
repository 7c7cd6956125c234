-- An attempt that a retry will abandon: no entry of it destroys, and what it acquires is noted.
use Rattle.std.proofs.Common.{◌≡◌, ℕ, ◌+◌, ◌≤◌, ◌<◌, Bool, true, false, List, [], ◌∷◌, Option, Some, None, refl, sym, ap, ◌∙◌, subst, inl, inr, arith}
use Rattle.std.specs.Prelude.{◌==◌, ◌&&◌, if◌then◌else◌, nat_lt, Contains, slice_get}
use Rattle.std.proofs.lemmas.Bool.{eq-eqb, eqb-true, and_parts}
use Rattle.std.proofs.lemmas.Option.{slice_get_within, get_or_from_slice_get}
use Rattle.ca_tree.specs.declared.numbers.FunId.{FunId}
use Rattle.ca_tree.specs.declared.numbers.SiteId.{SiteId}
use Rattle.ca_model.specs.declared.plan.Plan.{Plan}
use Rattle.ca_model.specs.declared.values.Value.{Value}
use Rattle.ca_model.specs.declared.values.Value.TheVariants as v
use Rattle.ca_model.specs.declared.values.Given.{Given}
use Rattle.ca_model.specs.declared.values.Given.TheVariants as given
use Rattle.ca_model.specs.declared.values.FaultKind.TheVariants as fault
use Rattle.ca_model.specs.declared.values.EventAct.{EventAct}
use Rattle.ca_model.specs.declared.values.EventAct.TheVariants as act
use Rattle.ca_model.specs.declared.tree.Act.{Act}
use Rattle.ca_model.specs.declared.tree.Act.TheVariants as item
use Rattle.ca_model.specs.declared.tree.Item.{Item}
use Rattle.ca_model.specs.declared.tree.Function.{Function}
use Rattle.ca_model.specs.Asks.{Want, Reads, Locks, Mallocs, Calls, Returns, Turns, Faults, Saves, Ended, Got, Is, Wants, No_result}
use Rattle.ca_model.specs.Items.{Done}
use Rattle.ca_model.specs.Laws.{Stands}
use Rattle.ca_model.specs.Numbering.{IsAmong, StandsAmong, kind_of}
use Rattle.ca_model.specs.Accesses.{Kind, kinds, act_accesses, all_sites, numbered}
use Rattle.ca_model.specs.Destroying.{has_malloc, ends_item}
use Rattle.ca_model.specs.Links.{first_item}
use Rattle.ca_model.specs.Paths as paths
use Rattle.ca_model.specs.Begun.{InProgress}
use Rattle.ca_model.specs.Follows.{first_head, heads_by, BeginsWith, AreLinked}
use Rattle.ca_model.specs.Codes.{Typed, code_of}
use Rattle.ca_model.specs.Sites.{all_items}
use Rattle.ca_model.specs.WellFormed.{IsWellFormed}
use Rattle.ca_model.specs.Plans.{IsSound, SavesAtEntry, Acquires}
use Rattle.ca_model.specs.Frames.{Code, Frame, mark, begun, wanted, settle, entered, frame_of, first_weight}
use Rattle.ca_model.specs.Private.{Thread, last_want, stand_at, stand, gone, answer, after_entry}
use Rattle.ca_model.specs.Projection.{is_mark}
use Rattle.ca_model.specs.Hardened.{Hardened, Saved, site_of, may_retry, tries, retry_site, taking}
use Rattle.ca_model.proofs.OneEntry.{if_some}
use Rattle.ca_model.proofs.Law.{one_of}
use Rattle.ca_model.proofs.Members.{found, tested}
use Rattle.ca_model.proofs.Numbers.{act_stands}
use Rattle.ca_model.proofs.SiteNumbers.{have_their_numbers}
use Rattle.ca_model.proofs.Silent.{stays, started_stands}
use Rattle.ca_model.proofs.Followed.{well_formed_follows}
use Rattle.ca_model.proofs.FramesInPlace.{AreInPlace, entry_is}
use Rattle.ca_erasure.proofs.Standing.{Wanting, Of_item, Of_turn, Of_save_after, Of_save_entry, Of_end, wanting, by_own, last_keeps}
use Rattle.ca_erasure.proofs.Backward.{IsWithin, Covered, came, answer_goes}
use Rattle.ca_erasure.proofs.KnownItems.{heads_known}

-- an entry that may be dropped, with what it takes
abbrev pub IsDropped : EventAct → List Given → Type 0
IsDropped (act.Read a x) gs = gs ≡ []
IsDropped (act.Lock m) gs = gs ≡ given.Mutex m ∷ []
IsDropped (act.Malloc n (v.Num k)) gs = gs ≡ []
IsDropped (act.Malloc n (v.Addr a)) gs = gs ≡ given.Block a.block ∷ []
IsDropped (act.Call f) gs = gs ≡ []
IsDropped act.Turn gs = gs ≡ []
IsDropped _ gs = ⊥

pub no_save : (a : EventAct) (y : Value) → answer Saves a ≡ Some y → is_mark a ≡ false → ⊥
no_save act.Save y h m = cc
no_save _ y h m = cc

pub no_end : (a : EventAct) (y : Value) → answer Ended a ≡ Some y → ⊥
no_end a y h = cc

pub no_arith : (k : _) (a : EventAct) (y : Value) → answer (Faults k) a ≡ Some y → ⊥
no_arith k a y h = cc

abbrev pub is_call : Want → Bool
is_call (Calls g xs) = true
is_call _ = false

no_call : (g : FunId) (xs : List Value) (w : Want) → Calls g xs ≡ w → is_call w ≡ false → ⊥
no_call g xs w e h = let no : true ≡ false = ap is_call e ∙ h in absurd cc

no_malloc : (a : Act) (g : FunId) → paths.Calls a g → has_malloc a ≡ true → ⊥
no_malloc (item.Malloc t c n) g h e = h
no_malloc _ g h e = cc

module _ (p : Typed) (wf : IsWellFormed p) (plan : Plan) (sound : IsSound p plan) where
  abbrev code : Code
  code = code_of p plan

  -- a thread on the way to a retry
  abbrev pub WillRetry : Thread → Type 0
  WillRetry [] = ⊥
  WillRetry (f ∷ fs) = (k : ℕ) × (k ≤ sound.last) × IsWithin p wf plan sound k f

  locks_taken : (b : Bool) (g : Given) → b ≡ true → (if b then g ∷ [] else []) ≡ g ∷ []
  locks_taken b g e = ap (λ b. if b then g ∷ [] else []) e

  dropped : (w : Want) (a : EventAct) (y : Value) → answer w a ≡ Some y → is_mark a ≡ false → ends_item w ≡ false → Covered p wf plan sound w → IsDropped a (taking code w a)
  dropped (Reads at by k s) (act.Read b x) y h m e c = refl
  dropped (Locks k s i) (act.Lock n) y h m e c = locks_taken (code.acquires i) (given.Mutex n) c
  dropped (Mallocs c i) (act.Malloc n (v.Num k)) y h m e cov = refl
  dropped (Mallocs c i) (act.Malloc n (v.Addr a)) y h m e cov = locks_taken (code.acquires i) (given.Block a.block) cov
  dropped Turns act.Turn y h m e c = refl
  dropped Saves a y h m e c = absurd (no_save a y h m)
  dropped _ _ y h m e c = absurd cc

  called : (w : Want) (g : FunId) (xs : List Value) (a : EventAct) (y : Value) → answer (Calls g xs) a ≡ Some y → IsDropped a (taking code (Calls g xs) a)
  called w g xs (act.Call f) y h = refl
  called w g xs _ y h = absurd cc

  -- back over a call: the function is one that goes up
  enter_stuck : (g : FunId) (xs : List Value) (h : Function) (j : Item) (n : ℕ) → code.saves_at_entry g ≡ true → first_head (settle code n (entered g xs (Some h))).left ≡ j ∷ [] → ⊥
  enter_stuck g xs h j n saves at =
      let f : Frame = entered g xs (Some h) in
      let here : begun code f ≡ Wants Saves = ap (λ b. mark b f.locals []) saves in
      let same : settle code n f ≡ f = stays code n f (subst Stands (sym here) tt) in
      let no : first_head f.left ≡ j ∷ [] = ap (λ g. first_head g.left) (sym same) ∙ at in
      cc

  nothing_stuck : (g : FunId) (xs : List Value) (j : Item) (n : ℕ) → first_head (settle code n (entered g xs None)).left ≡ j ∷ [] → ⊥
  nothing_stuck g xs j n at =
      let f : Frame = entered g xs None in
      let same : settle code n f ≡ f = stays code n f tt in
      let no : first_head f.left ≡ j ∷ [] = ap (λ g. first_head g.left) (sym same) ∙ at in
      cc

  begins_at : (i j : Item) (is js : List Item) → is ≡ i ∷ js → BeginsWith j is → i ≡ j
  begins_at i j is js e h = subst (BeginsWith j) e h

  saves_entry : (h : Function) (g : FunId) → h.id ≡ g → SavesAtEntry plan h → code.saves_at_entry g ≡ true
  saves_entry h g is c = tested (λ k. k.0 == g.0) plan.saves_at_entry h.id c (ap (λ k. k.0 == g.0) is ∙ eq-eqb g.0 g.0 refl)

  up_by : (k : ℕ) (g : FunId) (xs : List Value) (o : Option Function) (j : Item) → slice_get p.functions g.0 ≡ o → k ≤ sound.last
      → (let f : Frame = entered g xs o in (Stands (begun code (settle code (first_weight f.left) f))) × (first_head (settle code (first_weight f.left) f).left ≡ j ∷ [])) → Contains (sound.sets k) j
      → (k < sound.last) × ((c : Item) → Contains (all_items p.functions) c → paths.Calls c.act g → Contains (sound.sets (k + 1)) c)
  up_by k g xs None j is le (st, at) within = absurd (nothing_stuck g xs j (first_weight (entered g xs None).left) at)
  up_by k g xs (Some h) j is le (st, at) within =
      let n : ℕ = first_weight (entered g xs (Some h)).left in
      let has : Contains p.functions h = (g.0, slice_get_within p.functions g.0 h is, get_or_from_slice_get p.functions g.0 h h is) in
      let same : h.id ≡ g = ap (λ n. record { 0 = n }) (wf.functions g.0 h is) in
      let along = (well_formed_follows p wf plan).at_the_start h xs n has in
      let here : entered h.id xs (slice_get p.functions h.id.0) ≡ entered g xs (Some h) = ap (λ i. entered i xs (slice_get p.functions i.0)) same ∙ ap (entered g xs) is in
      let begins : BeginsWith (first_item h) (heads_by code n (entered g xs (Some h))) = subst (λ e. BeginsWith (first_item h) (heads_by code n e)) here along.0 in
      let links : AreLinked p (heads_by code n (entered g xs (Some h))) = subst (λ e. AreLinked p (heads_by code n e)) here along.1 in
      let r = came p wf plan sound k j le within n (entered g xs (Some h)) refl links st at in
      let first : Contains (sound.sets k) (first_item h) = subst (Contains (sound.sets k)) (begins_at r.0 (first_item h) (heads_by code n (entered g xs (Some h))) r.1 r.2 begins) r.3 in
      elim (sound.up k h le has first) [
        | inl saves ↦ absurd (enter_stuck g xs h j n (saves_entry h g same saves) at)
        | inr (alone, lt, calls) ↦ (lt, λ c known call. calls c (known, subst (paths.Calls c.act) (sym same) call))
      ]

  call_back : (f : Frame) (fs : Thread) (g : FunId) (xs : List Value) → InProgress code f → begun code f ≡ Wants (Calls g xs) → Wanting code f.left f.locals f.answers (Calls g xs) → WillRetry (frame_of code g xs ∷ f ∷ fs) → WillRetry (f ∷ fs)
  call_back f fs g xs progress is (Of_item i ys head run more) (k, le, (j, stands, within, mallocs)) =
      let up = up_by k g xs (slice_get p.functions g.0) j refl le (started_stands code g xs, stands) within in
      let call : paths.Calls i.act g = by_own code i f.locals ys (Calls g xs) run in
      (k + 1, omega (arith, up.0), (i, head, up.1 i (heads_known p wf plan f progress i head) call, λ e. absurd (no_malloc i.act g call e)))
  call_back f fs g xs progress is (Of_turn c head e) h = absurd (no_call g xs Turns e refl)
  call_back f fs g xs progress is (Of_save_after i ms at empty e) h = absurd (no_call g xs Saves e refl)
  call_back f fs g xs progress is (Of_save_entry i ms at empty e) h = absurd (no_call g xs Saves e refl)
  call_back f fs g xs progress is (Of_end at e) h = absurd (no_call g xs Ended e refl)

  -- back over an entry that answers what the innermost frame wants
  gone_back : (w : Want) (y : Value) (f : Frame) (fs : Thread) (a : EventAct) → begun code f ≡ Wants w → AreInPlace code (InProgress code) (f ∷ fs) → answer (last_want w fs) a ≡ Some y → is_mark a ≡ false
      → WillRetry (gone code w y f fs) → WillRetry (f ∷ fs) × IsDropped a (taking code (last_want w fs) a)
  gone_back (Calls g xs) y f fs a is all h m will = (call_back f fs g xs all.0 is (wanting code f.left f.locals f.answers (Calls g xs) is) will, called (Calls g xs) g xs a y h)
  gone_back (Returns x) y f [] a is all h m will = absurd will
  gone_back (Returns x) y f (caller ∷ fs) a is all h m (k, le, will) =
      let c = all.1.0 in
      let goes = answer_goes p wf plan sound k caller (Calls c.1.0 c.1.1) x le c.0 c.1.2 (λ no. no) (λ e. cc) (λ e. cc) will in
      let no : true ≡ false = goes.1 in
      absurd cc
  gone_back w y f fs a is all h m (k, le, will) =
      let goes = answer_goes p wf plan sound k f w y le all.0 is (λ no. no) (λ e. no_save a y (ap (λ w. answer w a) (sym e) ∙ h) m) (λ e. no_end a y (ap (λ w. answer w a) (sym e) ∙ h)) will in
      ((k, le, goes.0), dropped w a y h m goes.1 goes.2)

  by_got : (g : Got Done) (f : Frame) (fs : Thread) (a : EventAct) (t : Thread) → begun code f ≡ g → after_entry (stand_at code (wanted g) f fs) a ≡ Some t → AreInPlace code (InProgress code) (f ∷ fs) → is_mark a ≡ false
      → WillRetry t → WillRetry (f ∷ fs) × IsDropped a (taking code (last_want (wanted g) fs) a)
  by_got (Is d rest) f fs a t is h all m will = elim (entry_is (stand_at code Ended f fs) a t h) [
    | inl (k, e) ↦ absurd (subst WillRetry (sym (one_of [] t e)) will)
    | inr (y, ans, e) ↦ absurd (no_end a y ans)
  ]
  by_got No_result f fs a t is h all m will = elim (entry_is (stand_at code (Faults fault.Arith) f fs) a t h) [
    | inl (k, e) ↦ absurd (subst WillRetry (sym (one_of [] t e)) will)
    | inr (y, ans, e) ↦ absurd (no_arith fault.Arith a y ans)
  ]
  by_got (Wants w) f fs a t is h all m will = elim (entry_is (stand_at code w f fs) a t h) [
    | inl (k, e) ↦ absurd (subst WillRetry (sym (one_of [] t e)) will)
    | inr (y, ans, e) ↦ gone_back w y f fs a is all ans m (subst WillRetry (sym (one_of (gone code w y f fs) t e)) will)
  ]

  pub entry_back : (fs : Thread) (a : EventAct) (t : Thread) → after_entry (stand code fs) a ≡ Some t → AreInPlace code (InProgress code) fs → is_mark a ≡ false → WillRetry t → WillRetry fs × IsDropped a (taking code (stand code fs).want a)
  entry_back [] a t h all m will = elim (entry_is (stand code []) a t h) [
    | inl (k, e) ↦ absurd (subst WillRetry (sym (one_of [] t e)) will)
    | inr (y, ans, e) ↦ absurd (no_end a y ans)
  ]
  entry_back (f ∷ fs) a t h all m will = by_got (begun code f) f fs a t refl h all m will

  -- a thread that may retry stands at an item with a site of the plan
  among : (i : Item) (o : Option SiteId) (k : Option Kind) (s : SiteId) → o ≡ Some s → IsAmong (code.first_site i.id) (kinds (act_accesses i.act)) o k
      → (j : ℕ) × (kind : Kind) × (s.0 ≡ code.first_site i.id + j) × (slice_get (kinds (act_accesses i.act)) j ≡ Some kind)
  among i None k s e h = absurd cc
  among i (Some n) None s e h = absurd h
  among i (Some n) (Some kind) s e (j, at, is) = (j, kind, ap (λ (k : SiteId). k.0) (sym (one_of n s e)) ∙ at, is)

  at_site : (f : Frame) (fs : Thread) (w : Want) (s : SiteId) → InProgress code f → begun code f ≡ Wants w → Wanting code f.left f.locals f.answers w → site_of w ≡ Some s → code.planned s ≡ true → WillRetry (f ∷ fs)
  at_site f fs w s progress is (Of_item i ys head run more) site planned =
      let known = heads_known p wf plan f progress i head in
      let st : IsAmong (code.first_site i.id) (kinds (act_accesses i.act)) (site_of w) (kind_of w) =
      subst (StandsAmong (code.first_site i.id) (kinds (act_accesses i.act))) run (act_stands i.act i.id f.locals (code.first_site i.id) ys) in
      let number = among i (site_of w) (kind_of w) s site st in
      let numbers = have_their_numbers p wf i number.0 number.1 known number.3 in
      let in_plan = found (λ t. t.0 == s.0) plan.sites planned in
      let here : numbered (all_sites p) in_plan.0.0 ≡ Some numbers.0 = ap (numbered (all_sites p)) (eqb-true in_plan.0.0 s.0 in_plan.2 ∙ number.2) ∙ numbers.1 in
      let own = sound.sites numbers.0 in_plan.0 in_plan.1 here in
      (0, omega arith, (i, head, subst (Contains (sound.sets 0)) numbers.2 own.0, subst (λ (z : Item). has_malloc z.act ≡ true → Acquires plan z) numbers.2 own.1))
  at_site f fs w s progress is (Of_turn c head e) site planned = let no : site_of Turns ≡ Some s = ap site_of (sym e) ∙ site in absurd cc
  at_site f fs w s progress is (Of_save_after i ms at empty e) site planned = let no : site_of Saves ≡ Some s = ap site_of (sym e) ∙ site in absurd cc
  at_site f fs w s progress is (Of_save_entry g ms at empty e) site planned = let no : site_of Saves ≡ Some s = ap site_of (sym e) ∙ site in absurd cc
  at_site f fs w s progress is (Of_end at e) site planned = let no : site_of Ended ≡ Some s = ap site_of (sym e) ∙ site in absurd cc

  retries_by : (o : Option SiteId) (sv : Option Saved) (s : SiteId) → may_retry code o sv ≡ Some s → (o ≡ Some s) × (code.planned s ≡ true)
  retries_by None sv s h = absurd cc
  retries_by (Some at) None s h = absurd cc
  retries_by (Some at) (Some sv) s h =
      let r = if_some (code.planned at && nat_lt (tries sv at) code.limit) (Some at) s h in
      (r.1, ap code.planned (sym (one_of at s r.1)) ∙ (and_parts (code.planned at) (nat_lt (tries sv at) code.limit) r.0).0)

  got_site : (g : Got Done) (f : Frame) (fs : Thread) (s : SiteId) → InProgress code f → begun code f ≡ g → site_of (last_want (wanted g) fs) ≡ Some s → code.planned s ≡ true → WillRetry (f ∷ fs)
  got_site (Is d rest) f fs s progress is h planned = absurd cc
  got_site No_result f fs s progress is h planned = absurd cc
  got_site (Wants w) f fs s progress is h planned = at_site f fs w s progress is (wanting code f.left f.locals f.answers w is) (last_keeps (λ v. site_of v ≡ Some s) (λ e. absurd cc) w fs h) planned

  pub will_retry : (h : Hardened) (s : SiteId) → AreInPlace code (InProgress code) h.frames → retry_site code h ≡ Some s → WillRetry h.frames
  will_retry h s all at = let r = retries_by (site_of (stand code h.frames).want) h.saved s at in by_frames h.frames all r.0 r.1
    where
      by_frames : (fs : Thread) → AreInPlace code (InProgress code) fs → site_of (stand code fs).want ≡ Some s → code.planned s ≡ true → WillRetry fs
      by_frames [] all site planned = absurd cc
      by_frames (f ∷ fs) all site planned = got_site (begun code f) f fs s all.0 refl site planned
