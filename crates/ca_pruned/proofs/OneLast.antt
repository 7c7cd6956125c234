-- A thread of a run has at most one last point.
use Rattle.std.proofs.Common.{◌≡◌, ℕ, cond, List, [], ◌∷◌, ◌++◌, Option, Some, None, refl, sym, ap, ◌∙◌, subst, inl, inr, append-nil, append_assoc}
use Rattle.std.specs.Prelude.{◌⊎◌, slice_get}
use Rattle.std.proofs.lemmas.Bool.{eq-eqb}
use Rattle.ca_model.specs.declared.values.Event.{Event}
use Rattle.ca_model.specs.declared.values.EventAct.{EventAct}
use Rattle.ca_model.specs.declared.tree.Item.{Item}
use Rattle.ca_model.specs.Codes.{Typed}
use Rattle.ca_model.specs.SourceRuns.{rules_of}
use Rattle.ca_model.specs.Opening.{opening}
use Rattle.ca_model.specs.Private.{Thread}
use Rattle.ca_model.specs.Machine.{Rules, State, Run, IsFixed, own_of, private}
use Rattle.ca_model.proofs.Law.{one_of, own_join}
use Rattle.ca_pruned.specs.Points.{bare, passed, HasPoint, PassesNone, HasJustPassed, By_entry, At_start, IsLastPoint}
use Rattle.ca_pruned.specs.Pruned.{LastPointIsOne}
use Rattle.ca_pruned.proofs.Runs.{own_run}
use Rattle.ca_pruned.proofs.Found.{run_join}
use Rattle.ca_erasure.proofs.Moving.{head_of, tail_of}
use Rattle.ca_model.proofs.Steps.{next_is_fixed}

-- of two first parts of a list one begins with the other
split : {A : Type 0} (xs ys zs ws : List A) → xs ++ ys ≡ zs ++ ws → ((d : List A) × (xs ++ d ≡ zs) × (ys ≡ d ++ ws)) ⊎ ((d : List A) × (zs ++ d ≡ xs) × (ws ≡ d ++ ys))
split [] ys zs ws e = inl (zs, refl, e)
split (x ∷ xs) ys [] ws e = inr (x ∷ xs, refl, sym e)
split (x ∷ xs) ys (z ∷ zs) ws e =
    let same : x ≡ z = head_of x z (xs ++ ys) (zs ++ ws) e in
    elim (split xs ys zs ws (tail_of x z (xs ++ ys) (zs ++ ws) e)) [
      | inl (d, a, b) ↦ inl (d, ap (λ l. x ∷ l) a ∙ ap (λ v. v ∷ zs) same, b)
      | inr (d, a, b) ↦ inr (d, ap (λ l. z ∷ l) a ∙ ap (λ v. v ∷ xs) (sym same), b)
    ]

none_left : {A : Type 0} (xs ys : List A) → xs ++ ys ≡ [] → ys ≡ []
none_left [] ys e = e
none_left (x ∷ xs) ys e = absurd cc

-- a list that ends in e, cut in two
last_part : {A : Type 0} (before past d : List A) (e : A) → before ++ e ∷ [] ≡ past ++ d → (d ≡ []) ⊎ ((c : List A) × (past ++ c ≡ before) × (d ≡ c ++ e ∷ []))
last_part before past d e h = elim (split before (e ∷ []) past d h) [
  | inl (c, a, b) ↦ by_rest c a b
  | inr (c, a, b) ↦ inr (c, a, b)
]
  where
    by_rest : (c : List _) → before ++ c ≡ past → e ∷ [] ≡ c ++ d → (d ≡ []) ⊎ ((c : List _) × (past ++ c ≡ before) × (d ≡ c ++ e ∷ []))
    by_rest [] a b = inr ([], append-nil past ∙ (sym a ∙ append-nil before), sym b)
    by_rest (x ∷ c) a b = inl (none_left c d (sym (tail_of e x [] (c ++ d) b)))

module _ {T : Type 0} (r : Rules T) (fixed : IsFixed r) where
  run_split : (es ds : List Event) (s new : State T) → Run r s (es ++ ds) new → (mid : State T) × Run r s es mid × Run r mid ds new
  run_split [] ds s new run = (s, refl, run)
  run_split (e ∷ es) ds s new (far, st, run) = let m = run_split es ds far new run in (m.0, (far, st, m.1), m.2)

  same_run : (es : List Event) (s new other : State T) → Run r s es new → Run r s es other → new ≡ other
  same_run [] s new other run also = run ∙ sym also
  same_run (e ∷ es) s new other (mid, st, run) (far, su, also) = same_run es mid new other run (subst (λ m. Run r m es other) (fixed s e far mid su st) also)

module _ (p : Typed) (depth : ℕ) (i : Item) where
  abbrev r : Rules Thread
  r = rules_of p

  none_at : (xs : List EventAct) (o : Option Thread) (x : Thread) (a : EventAct) (ys : List EventAct) → private r o xs ≡ Some x → PassesNone p depth i o (xs ++ a ∷ ys) → HasPoint p depth i (passed (bare p) x a) → ⊥
  none_at [] None x a ys h none = absurd cc
  none_at (b ∷ xs) None x a ys h none = absurd cc
  none_at [] (Some y) x a ys h none = subst (λ z. HasPoint p depth i (passed (bare p) z a) → ⊥) (one_of y x h) none.0
  none_at (b ∷ xs) (Some y) x a ys h none = none_at xs (r.advance y b) x a ys h none.1

  module _ (h : List Event) (last : State Thread) (t : ℕ) (q w : Thread) (e f : List EventAct) (l : IsLastPoint p depth i h last t q e) (m : IsLastPoint p depth i h last t w f) where
    -- the run up to a part of what came since
    part : (c ds : List Event) (mid : State Thread) → l.since ≡ c ++ ds → Run r (opening r p) (l.past ++ c) mid → (x : Thread) × (slice_get mid.threads t ≡ Some x) × (private r (Some q) (own_of t c) ≡ Some x)
    part c ds mid cut run =
        let s = run_split r (next_is_fixed r) c ds l.mid last (subst (λ s. Run r l.mid s last) cut l.rest) in
        let same : s.0 ≡ mid = same_run r (next_is_fixed r) (l.past ++ c) (opening r p) s.0 mid (run_join r l.past c (opening r p) l.mid s.0 l.run s.1) run in
        own_run r c l.mid mid t q (subst (Run r l.mid c) same s.1) l.stands

    none_own : (d : List Event) → l.past ++ d ≡ m.past → l.since ≡ d ++ m.since → HasJustPassed p depth i m.past m.mid t → own_of t d ≡ []
    none_own d a b (At_start g x none stands point) = none_left (own_of t l.past) (own_of t d) (sym (own_join t l.past d) ∙ (ap (own_of t) a ∙ none))
    none_own d a b (By_entry before ev old st whole run is point) = elim (last_part before l.past d ev (whole ∙ sym a)) [
      | inl empty ↦ ap (own_of t) empty
      | inr (c, begins, ends) ↦
          let cut : l.since ≡ c ++ (ev ∷ m.since) = b ∙ (ap (λ d. d ++ m.since) ends ∙ append_assoc c (ev ∷ []) m.since) in
          let x = part c (ev ∷ m.since) old cut (subst (λ k. Run r (opening r p) k old) (sym begins) run) in
          let same : x.0 ≡ st.before = one_of x.0 st.before (sym x.1 ∙ (ap (slice_get old.threads) (sym is) ∙ st.stands)) in
          let own : e ≡ own_of t c ++ ev.act ∷ own_of t m.since = sym l.own ∙ (ap (own_of t) cut ∙ (own_join t c (ev ∷ m.since) ∙ ap (λ b. own_of t c ++ cond b (ev.act ∷ own_of t m.since) (own_of t m.since)) (eq-eqb ev.thread t is))) in
          absurd (none_at (own_of t c) (Some q) x.0 ev.act (own_of t m.since) x.2 (subst (PassesNone p depth i (Some q)) own l.no_other) (subst (λ z. HasPoint p depth i (passed (bare p) z ev.act)) (sym same) point))
    ]

    ordered : (d : List Event) → l.past ++ d ≡ m.past → l.since ≡ d ++ m.since → (q ≡ w) × (e ≡ f)
    ordered d a b =
        let none = none_own d a b m.passes in
        let x = part d m.since m.mid b (subst (λ k. Run r (opening r p) k m.mid) (sym a) m.run) in
        let to : x.0 ≡ w = one_of x.0 w (sym x.1 ∙ m.stands) in
        (one_of q w (ap (private r (Some q)) (sym none) ∙ (x.2 ∙ ap Some to)), sym l.own ∙ (ap (own_of t) b ∙ (own_join t d m.since ∙ (ap (λ o. o ++ own_of t m.since) none ∙ m.own))))

pub one_last : (p : Typed) → LastPointIsOne p
one_last p depth i h last t q w e f l m = elim (split l.past l.since m.past m.since (l.whole ∙ sym m.whole)) [
  | inl (d, a, b) ↦ ordered p depth i h last t q w e f l m d a b
  | inr (d, a, b) ↦ let r = ordered p depth i h last t w q f e m l d a b in (sym r.0, sym r.1)
]
