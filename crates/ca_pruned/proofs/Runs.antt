-- The entries of a thread since the last point, looked at from a site.
use Rattle.std.proofs.Common.{◌≡◌, ℕ, ◌+◌, cond, List, [], ◌∷◌, Option, Some, None, refl, sym, ap, ◌∙◌, subst, inl, inr, append-nil}
use Rattle.std.specs.Prelude.{slice_get}
use Rattle.std.proofs.lemmas.Bool.Decides.{eqb_tells}
use Rattle.ca_tree.specs.declared.numbers.SiteId.{SiteId}
use Rattle.ca_model.specs.declared.values.Event.{Event}
use Rattle.ca_model.specs.declared.values.EventAct.{EventAct}
use Rattle.ca_model.specs.declared.tree.Item.{Item}
use Rattle.ca_model.specs.Arith.{null}
use Rattle.ca_model.specs.Asks.{Want, Turns, Ended, Got, Is, Wants, No_result}
use Rattle.ca_model.specs.Items.{Done}
use Rattle.ca_model.specs.Numbering.{IsAmong, StandsAmong, kind_of}
use Rattle.ca_model.specs.Accesses.{Kind, Site, kinds, act_accesses, all_sites, numbered}
use Rattle.ca_model.specs.Begun.{InProgress, starts, goes_on}
use Rattle.ca_model.specs.Codes.{Typed}
use Rattle.ca_model.specs.WellFormed.{IsWellFormed}
use Rattle.ca_model.specs.SourceRuns.{no_plan, rules_of}
use Rattle.ca_model.specs.Opening.{opening}
use Rattle.ca_model.specs.Plans.{IsSite}
use Rattle.ca_model.specs.Hardened.{site_of}
use Rattle.ca_model.specs.Frames.{Code, Frame, begun, wanted}
use Rattle.ca_model.specs.Private.{Thread, last_want}
use Rattle.ca_model.specs.Machine.{Rules, State, Run, own_of, private}
use Rattle.ca_model.proofs.Law.{one_of, private_nil}
use Rattle.ca_model.proofs.Numbers.{act_stands}
use Rattle.ca_model.proofs.SiteNumbers.{have_their_numbers}
use Rattle.ca_model.proofs.Creates.{source_creates}
use Rattle.ca_model.proofs.SourceMoves.{source_started}
use Rattle.ca_model.proofs.FramesInPlace.{AreInPlace, HasFrames, entry_in_place}
use Rattle.ca_model.proofs.KeptByRuns.{kept_by_run, opening_kept}
use Rattle.ca_erasure.proofs.KnownItems.{heads_known}
use Rattle.ca_pruned.specs.Points.{bare, PassesNone}
use Rattle.ca_pruned.proofs.Asking.{Asked, By_item, By_turn, asked}
use Rattle.ca_pruned.proofs.Passing.{In_it}
use Rattle.ca_pruned.proofs.Threads.{IsAhead, nearer_ahead, OnTheWay, entry_back}
use Rattle.ca_erasure.proofs.Standing.{last_keeps}
use Rattle.ca_erasure.proofs.Moving.{stands_after, others_stay}

module _ {T : Type 0} (r : Rules T) where
  -- a thread of a run goes on by its own entries
  pub own_run : (es : List Event) (s new : State T) (t : ℕ) (x : T) → Run r s es new → slice_get s.threads t ≡ Some x → (y : T) × (slice_get new.threads t ≡ Some y) × (private r (Some x) (own_of t es) ≡ Some y)
  own_run [] s new t x run at = (x, ap (λ (n : State T). slice_get n.threads t) run ∙ at, private_nil r (Some x))
  own_run (e ∷ es) s new t x (mid, st, run) at = elim (eqb_tells e.thread t) [
    | inl (b, is) ↦
        let same : st.before ≡ x = one_of st.before x (sym st.stands ∙ (ap (slice_get s.threads) is ∙ at)) in
        let rest = own_run es mid new t st.after run (ap (slice_get mid.threads) (sym is) ∙ stands_after r s mid e st) in
        let goes : r.advance x e.act ≡ Some st.after = ap (λ z. r.advance z e.act) (sym same) ∙ st.own in
        (rest.0, rest.1, ap (λ b. private r (Some x) (cond b (e.act ∷ own_of t es) (own_of t es))) b ∙ (ap (λ o. private r o (own_of t es)) goes ∙ rest.2))
    | inr (b, ne) ↦
        let rest = own_run es mid new t x run (others_stay r s mid e st t x (λ same. ne (sym same)) at) in
        (rest.0, rest.1, ap (λ b. private r (Some x) (cond b (e.act ∷ own_of t es) (own_of t es))) b ∙ rest.2)
  ]

module _ (p : Typed) (wf : IsWellFormed p) where
  abbrev code : Code
  code = bare p

  abbrev pub AreIn : Thread → Type 0
  AreIn = AreInPlace code (InProgress code)

  pub goes_in_place : (fs : Thread) (a : EventAct) (x : Thread) → (rules_of p).advance fs a ≡ Some x → AreIn fs → AreIn x
  goes_in_place fs a x e all = (entry_in_place code (InProgress code) (λ f w x g is more. goes_on g is more x) (λ f g xs h is. starts g xs) fs a x e all).0

  pub in_place : (es : List Event) (s : State Thread) → Run (rules_of p) (opening (rules_of p) p) es s → (t : ℕ) (x : Thread) → slice_get s.threads t ≡ Some x → AreIn x
  in_place es s run t x at =
      (kept_by_run (rules_of p) AreIn HasFrames (source_creates code)
      (λ fs a x all e. entry_in_place code (InProgress code) (λ f w x g is more. goes_on g is more x) (λ f g xs h is. starts g xs) fs a x e all)
      (λ fs k z all e. source_started code (InProgress code) (λ f g x h is. starts g (x ∷ [])) fs k z all e)
      p.mutexes es (opening (rules_of p) p) s (opening_kept (rules_of p) AreIn HasFrames p (starts p.main (null ∷ []), tt) tt) run).fine t x at

  module _ (depth : ℕ) (start : Item) (site : SiteId) where
    abbrev pub AreOnTheWay : Option Thread → List EventAct → Type 0
    AreOnTheWay None as' = Unit {0}
    AreOnTheWay (Some x) [] = Unit {0}
    AreOnTheWay (Some x) (a ∷ as') = (AreIn x × OnTheWay p wf depth start site x a) × AreOnTheWay ((rules_of p).advance x a) as'

    abbrev SomeAhead : Option Thread → Type 0
    SomeAhead o = (z : Thread) × (o ≡ Some z) × IsAhead p wf depth start site z

    -- the entries that lead over no point to the site are on the way
    pub along : (e : List EventAct) (o : Option Thread) (y : Thread) → private (rules_of p) o e ≡ Some y → ((z : Thread) → o ≡ Some z → AreIn z) → PassesNone p depth start o e → IsAhead p wf depth start site y
        → SomeAhead o × AreOnTheWay o e
    along [] None y h all none on = absurd cc
    along (a ∷ e) None y h all none on = absurd cc
    along [] (Some x) y h all none on = ((x, refl, subst (IsAhead p wf depth start site) (sym (one_of x y h)) on), tt)
    along (a ∷ e) (Some x) y h all none on =
        let rest = along e ((rules_of p).advance x a) y h (λ z is. goes_in_place x a z is (all x refl)) none.1 on in
        let (z, is, ahead) = rest.0 in
        let way = entry_back p wf depth start site x a z is (all x refl) none.0 ahead in
        ((x, refl, nearer_ahead p wf depth start site x way.0), ((all x refl, way), rest.1))

  -- a thread that stands at a site is on the way to it
  module _ (depth : ℕ) (s : Site) (n : SiteId) (is : IsSite p s n) where
    among : (i : Item) (o : Option SiteId) (k : Option Kind) → o ≡ Some n → IsAmong (code.first_site i.id) (kinds (act_accesses i.act)) o k
        → (j : ℕ) × (kind : Kind) × (n.0 ≡ code.first_site i.id + j) × (slice_get (kinds (act_accesses i.act)) j ≡ Some kind)
    among i None k e h = absurd cc
    among i (Some m) None e h = absurd h
    among i (Some m) (Some kind) e (j, at, is') = (j, kind, ap (λ (k : SiteId). k.0) (sym (one_of m n e)) ∙ at, is')

    at_frame : (f : Frame) (fs : Thread) (w : Want) → InProgress code f → begun code f ≡ Wants w → Asked p f.left f.locals f.answers w → site_of w ≡ Some n → IsAhead p wf depth s.item n (f ∷ fs)
    at_frame f fs w progress at (By_item i ys head run more) site =
        let known = heads_known p wf no_plan f progress i head in
        let st : IsAmong (code.first_site i.id) (kinds (act_accesses i.act)) (site_of w) (kind_of w) =
        subst (StandsAmong (code.first_site i.id) (kinds (act_accesses i.act))) run (act_stands i.act i.id f.locals (code.first_site i.id) ys) in
        let number = among i (site_of w) (kind_of w) site st in
        let numbers = have_their_numbers p wf i number.0 number.1 known number.3 in
        let own : numbers.0 ≡ s = one_of numbers.0 s (sym numbers.1 ∙ (ap (numbered (all_sites p)) (sym number.2) ∙ is)) in
        let same : i ≡ s.item = sym numbers.2 ∙ ap (λ (z : Site). z.item) own in
        (0, In_it (head ∙ ap (λ z. z ∷ []) same) refl [] w (ap (λ xs. begun code (record f { answers = xs })) (append-nil f.answers) ∙ at) site)
    at_frame f fs w progress at (By_turn c head e) site = let no : site_of Turns ≡ Some n = ap site_of (sym e) ∙ site in absurd cc

    no_site : (w : Want) → w ≡ Ended → site_of w ≡ Some n → ⊥
    no_site w e h = let no : site_of Ended ≡ Some n = ap site_of (sym e) ∙ h in absurd cc

    by_got : (g : Got Done) (f : Frame) (fs : Thread) → InProgress code f → begun code f ≡ g → site_of (last_want (wanted g) fs) ≡ Some n → IsAhead p wf depth s.item n (f ∷ fs)
    by_got (Is d rest) f fs progress at h = absurd cc
    by_got No_result f fs progress at h = absurd cc
    by_got (Wants w) f fs progress at h =
        let site : site_of w ≡ Some n = last_keeps (λ v. site_of v ≡ Some n) (λ e. absurd cc) w fs h in
        at_frame f fs w progress at (asked p f.left f.locals f.answers w at (λ e. no_site w e site)) site

    pub at_site : (x : Thread) → AreIn x → site_of ((rules_of p).want x) ≡ Some n → IsAhead p wf depth s.item n x
    at_site [] all h = absurd cc
    at_site (f ∷ fs) all h = by_got (begun code f) f fs all.0 refl h
