-- Looking back from a site, over the calls of a thread.
use Rattle.std.proofs.Common.{◌≡◌, ℕ, ◌+◌, ◌<◌, ◌≤◌, Bool, true, false, List, [], ◌∷◌, ◌++◌, map, Option, Some, None, refl, sym, ap, ◌∙◌, subst, inl, inr, arith}
use Rattle.std.specs.Prelude.{Contains, ◌⊎◌, slice_get}
use Rattle.std.proofs.lemmas.Bool.{cases_lt}
use Rattle.std.proofs.lemmas.Option.{slice_get_within, get_or_from_slice_get}
use Rattle.ca_tree.specs.declared.numbers.FunId.{FunId}
use Rattle.ca_tree.specs.declared.numbers.SiteId.{SiteId}
use Rattle.ca_model.specs.declared.values.Value.{Value}
use Rattle.ca_model.specs.declared.values.FaultKind.TheVariants as fault
use Rattle.ca_model.specs.declared.values.EventAct.{EventAct}
use Rattle.ca_model.specs.declared.tree.Item.{Item}
use Rattle.ca_model.specs.declared.tree.Function.{Function}
use Rattle.ca_model.specs.Asks.{Want, Calls, Returns, Turns, Faults, Ended, Got, Is, Wants, No_result}
use Rattle.ca_model.specs.Items.{Done}
use Rattle.ca_model.specs.Destroying.{wants_destroying, ends_item}
use Rattle.ca_model.specs.Links.{first_item}
use Rattle.ca_model.specs.Paths as paths
use Rattle.ca_model.specs.Paths.{Stop, IsCall, BeginsThreads, GoesUp}
use Rattle.ca_model.specs.Begun.{InProgress}
use Rattle.ca_model.specs.Follows.{first_head, heads_by, BeginsWith, AreLinked}
use Rattle.ca_model.specs.Codes.{Typed}
use Rattle.ca_model.specs.WellFormed.{IsWellFormed}
use Rattle.ca_model.specs.SourceRuns.{no_plan}
use Rattle.ca_model.specs.Frames.{Code, Left, Enter, Begin, Run, Frame, begun, wanted, settle, entered, frame_of, first_weight}
use Rattle.ca_model.specs.Private.{Thread, last_want, stand_at, stand, gone, answer, after_entry}
use Rattle.ca_model.proofs.Law.{one_of}
use Rattle.ca_model.proofs.Silent.{stays}
use Rattle.ca_model.proofs.ApartItems.{one_function_a_first}
use Rattle.ca_model.proofs.PlanTests.{begins_threads, true_begins, false_begins}
use Rattle.ca_model.proofs.Followed.{well_formed_follows}
use Rattle.ca_model.proofs.FramesInPlace.{AreInPlace, entry_is}
use Rattle.ca_erasure.proofs.Standing.{by_own}
use Rattle.ca_erasure.proofs.KnownItems.{heads_known}
use Rattle.ca_erasure.proofs.Attempts.{no_end, no_arith, is_call}
use Rattle.ca_pruned.specs.Points.{passed_by, all_passed, going_frame, if_answered, passed, passed_at_start, bare, HasPoint}
use Rattle.ca_pruned.proofs.Asking.{Asked, By_item, By_turn, asked}
use Rattle.ca_pruned.proofs.Passing.{InPath, Ahead, Nearer, Behind_still, ahead, place, came, passes_first, answer_goes}

module _ (p : Typed) (wf : IsWellFormed p) (depth : ℕ) (start : Item) (site : SiteId) where
  abbrev code : Code
  code = bare p

  abbrev NoPoint : List Left → Type 0
  NoPoint ls = HasPoint p depth start ls → ⊥

  -- a thread on the way to the site
  abbrev pub IsAhead : Thread → Type 0
  IsAhead [] = ⊥
  IsAhead (f ∷ fs) = (k : ℕ) × Ahead p wf depth start site k f

  abbrev pub IsNearer : Thread → Type 0
  IsNearer [] = ⊥
  IsNearer (f ∷ fs) = (k : ℕ) × Nearer p wf depth start site k f

  pub nearer_ahead : (fs : Thread) → IsNearer fs → IsAhead fs
  nearer_ahead [] h = h
  nearer_ahead (f ∷ fs) (k, h) = (k, ahead p wf depth start site k f h)

  pub nothing_stuck : (g : FunId) (xs : List Value) (j : Item) (n : ℕ) → first_head (settle code n (entered g xs None)).left ≡ j ∷ [] → ⊥
  nothing_stuck g xs j n at =
      let f : Frame = entered g xs None in
      let same : settle code n f ≡ f = stays code n f tt in
      let no : first_head f.left ≡ j ∷ [] = ap (λ g. first_head g.left) (sym same) ∙ at in
      cc

  begins_at : (i j : Item) (is js : List Item) → is ≡ i ∷ js → BeginsWith j is → i ≡ j
  begins_at i j is js e h = subst (BeginsWith j) e h

  -- at the entry of a function a path goes up to each call, or there is a point
  entry_point : (k : ℕ) (h : Function) (n : ℕ) (f : Frame) (ls : List Left) → Contains p.functions h → InPath p wf depth start site k (first_item h) → f.left ≡ Enter h.id ∷ ls → NoPoint (passed_by code n f)
      → ((BeginsThreads p h → ⊥) → k < depth → ⊥) → ⊥
  entry_point k h n f ls has path at none no_way =
      none (
        Enter h.id,
        passes_first p wf depth start site n f (Enter h.id) ls at,
        (
          h,
          refl,
          (
            has,
            (
              k,
              path,
              λ b up.
                  let same : up.0 ≡ h = one_function_a_first p wf up.0 h up.1 has up.2 in
                  no_way (subst (λ g. BeginsThreads p g → ⊥) same up.3) up.5,
            ),
          ),
        ),
      )

  goes_up : (k : ℕ) (h : Function) (n : ℕ) (f : Frame) (ls : List Left) → Contains p.functions h → InPath p wf depth start site k (first_item h) → f.left ≡ Enter h.id ∷ ls → NoPoint (passed_by code n f)
      → (b : Bool) → begins_threads p h ≡ b → (k < depth) ⊎ (depth ≤ k) → (BeginsThreads p h → ⊥) × (k < depth)
  goes_up k h n f ls has path at none true begun where' = absurd (entry_point k h n f ls has path at none (λ alone lt. alone (true_begins p h begun)))
  goes_up k h n f ls has path at none false alone (inr past) = absurd (entry_point k h n f ls has path at none (λ a lt. omega (arith, past, lt)))
  goes_up k h n f ls has path at none false alone (inl lt) = (false_begins p h alone, lt)

  -- the function of a frame that begins on the way to the site
  abbrev pub IsUp : ℕ → FunId → Type 0
  IsUp k g = (h : Function) × Contains p.functions h × (h.id ≡ g) × InPath p wf depth start site k (first_item h) × (BeginsThreads p h → ⊥) × (k < depth)

  up_by : (k : ℕ) (g : FunId) (xs : List Value) (o : Option Function) (j : Item) → slice_get p.functions g.0 ≡ o → first_head (settle code (first_weight (entered g xs o).left) (entered g xs o)).left ≡ j ∷ [] → InPath p wf depth start site k j
      → NoPoint (passed_by code (first_weight (entered g xs o).left) (entered g xs o)) → IsUp k g
  up_by k g xs None j is at path none = absurd (nothing_stuck g xs j (first_weight (entered g xs None).left) at)
  up_by k g xs (Some h) j is at path none =
      let f : Frame = entered g xs (Some h) in
      let n : ℕ = first_weight f.left in
      let has : Contains p.functions h = (g.0, slice_get_within p.functions g.0 h is, get_or_from_slice_get p.functions g.0 h h is) in
      let same : h.id ≡ g = ap (λ n. record { 0 = n }) (wf.functions g.0 h is) in
      let along = (well_formed_follows p wf no_plan).at_the_start h xs n has in
      let here : entered h.id xs (slice_get p.functions h.id.0) ≡ entered g xs (Some h) = ap (λ i. entered i xs (slice_get p.functions i.0)) same ∙ ap (entered g xs) is in
      let first : BeginsWith (first_item h) (heads_by code n f) = subst (λ e. BeginsWith (first_item h) (heads_by code n e)) here along.0 in
      let links : AreLinked p (heads_by code n f) = subst (λ e. AreLinked p (heads_by code n e)) here along.1 in
      let r = came p wf depth start site k j path n f refl links none at in
      let begins : InPath p wf depth start site k (first_item h) = subst (InPath p wf depth start site k) (begins_at r.0 (first_item h) (heads_by code n f) r.1 r.2 first) r.3 in
      let ls : List Left = map Run h.body ++ Begin h.close ∷ [] in
      let up = goes_up k h n f ls has begins (ap (λ i. Enter i ∷ ls) (sym same)) none (begins_threads p h) refl (cases_lt k depth) in
      (h, has, same, begins, up.0, up.1)

  pub start_up : (k : ℕ) (g : FunId) (xs : List Value) → Ahead p wf depth start site k (frame_of code g xs) → NoPoint (passed_at_start code g xs) → IsUp k g
  start_up k g xs h none =
      let at = place p wf depth start site k (frame_of code g xs) h in
      up_by k g xs (slice_get p.functions g.0) at.0 refl at.1 at.2 none

  no_turn : (g : FunId) (xs : List Value) → Calls g xs ≡ Turns → ⊥
  no_turn g xs e = let no : true ≡ false = ap is_call e in absurd cc

  call_back : (f : Frame) (fs : Thread) (g : FunId) (xs : List Value) → InProgress code f → Asked p f.left f.locals f.answers (Calls g xs) → IsAhead (frame_of code g xs ∷ f ∷ fs) → NoPoint (passed_at_start code g xs) → IsNearer (f ∷ fs)
  call_back f fs g xs progress (By_item i ys head run more) (k, h) none =
      let (fn, has, same, path, alone, lt) = start_up k g xs h none in
      let call : paths.Calls i.act fn.id = subst (paths.Calls i.act) (sym same) (by_own code i f.locals ys (Calls g xs) run) in
      (k + 1, Behind_still i head ((first_item fn, k), path, inr (fn, has, refl, alone, (heads_known p wf no_plan f progress i head, call), lt, refl)))
  call_back f fs g xs progress (By_turn c head e) h none = absurd (no_turn g xs e)

  harmless : (w : Want) → ends_item w ≡ false → wants_destroying w ≡ false
  harmless (Calls g xs) h = refl
  harmless w h = h

  -- back over an entry that answers what the innermost frame wants
  gone_back : (w : Want) (y : Value) (f : Frame) (fs : Thread) → begun code f ≡ Wants w → AreInPlace code (InProgress code) (f ∷ fs) → (w ≡ Ended → ⊥) → NoPoint (all_passed code (going_frame code w y f fs))
      → IsAhead (gone code w y f fs) → IsNearer (f ∷ fs) × (wants_destroying (last_want w fs) ≡ false)
  gone_back (Calls g xs) y f fs is all no_end none h = (call_back f fs g xs all.0 (asked p f.left f.locals f.answers (Calls g xs) is no_end) h none, refl)
  gone_back (Returns x) y f [] is all no_end none h = absurd h
  gone_back (Returns x) y f (caller ∷ fs) is all no_end none (k, h) =
      let c = all.1.0 in
      let goes = answer_goes p wf depth start site k caller (Calls c.1.0 c.1.1) x c.0 c.1.2 (λ no. no) (λ e. cc) none h in
      let no : true ≡ false = goes.1 in
      absurd cc
  gone_back w y f fs is all no_end none (k, h) =
      let goes = answer_goes p wf depth start site k f w y all.0 is (λ no. no) no_end none h in
      ((k, goes.0), harmless w goes.1)

  -- what an entry on the way is: it answers a want that doesn't destroy
  abbrev pub OnTheWay : Thread → EventAct → Type 0
  OnTheWay fs a = IsNearer fs × (wants_destroying (stand code fs).want ≡ false) × ((y : Value) × (answer (stand code fs).want a ≡ Some y))

  by_got : (g : Got Done) (f : Frame) (fs : Thread) (a : EventAct) (t : Thread) → begun code f ≡ g → after_entry (stand_at code (wanted g) f fs) a ≡ Some t → AreInPlace code (InProgress code) (f ∷ fs)
      → ((y : Value) → answer (last_want (wanted g) fs) a ≡ Some y → NoPoint (all_passed code (going_frame code (wanted g) y f fs)))
      → IsAhead t → IsNearer (f ∷ fs) × (wants_destroying (last_want (wanted g) fs) ≡ false) × ((y : Value) × (answer (last_want (wanted g) fs) a ≡ Some y))
  by_got (Is d rest) f fs a t is h all none on = elim (entry_is (stand_at code Ended f fs) a t h) [
    | inl (k, e) ↦ absurd (subst IsAhead (sym (one_of [] t e)) on)
    | inr (y, ans, e) ↦ absurd (no_end a y ans)
  ]
  by_got No_result f fs a t is h all none on = elim (entry_is (stand_at code (Faults fault.Arith) f fs) a t h) [
    | inl (k, e) ↦ absurd (subst IsAhead (sym (one_of [] t e)) on)
    | inr (y, ans, e) ↦ absurd (no_arith fault.Arith a y ans)
  ]
  by_got (Wants w) f fs a t is h all none on = elim (entry_is (stand_at code w f fs) a t h) [
    | inl (k, e) ↦ absurd (subst IsAhead (sym (one_of [] t e)) on)
    | inr (y, ans, e) ↦
        let r = gone_back w y f fs is all (λ e. no_end a y (ap (λ w. answer (last_want w fs) a) (sym e) ∙ ans)) (none y ans) (subst IsAhead (sym (one_of (gone code w y f fs) t e)) on) in
        (r.0, r.1, (y, ans))
  ]

  no_point_by : (f : Frame) (fs : Thread) (a : EventAct) (y : Value) (o : Option Value) → o ≡ Some y → NoPoint (if_answered code (f ∷ fs) o) → NoPoint (all_passed code (going_frame code (wanted (begun code f)) y f fs))
  no_point_by f fs a y o e none = subst (λ o. NoPoint (if_answered code (f ∷ fs) o)) e none

  -- back over an entry by which the thread passes no point
  pub entry_back : (fs : Thread) (a : EventAct) (t : Thread) → after_entry (stand code fs) a ≡ Some t → AreInPlace code (InProgress code) fs → NoPoint (passed code fs a) → IsAhead t → OnTheWay fs a
  entry_back [] a t h all none on = elim (entry_is (stand code []) a t h) [
    | inl (k, e) ↦ absurd (subst IsAhead (sym (one_of [] t e)) on)
    | inr (y, ans, e) ↦ absurd (no_end a y ans)
  ]
  entry_back (f ∷ fs) a t h all none on = by_got (begun code f) f fs a t refl h all (λ y ans. no_point_by f fs a y (answer (stand code (f ∷ fs)).want a) ans none) on
