-- Local pruning: from the last point a thread that failed at a hopeless site goes the same way again.
use Rattle.std.proofs.Common.{◌≡◌, ℕ, true, false, cond, List, [], ◌∷◌, ◌++◌, Some, refl, sym, ap, ◌∙◌, subst, inl, inr, append-nil}
use Rattle.std.specs.Prelude.{◌==◌, slice_get}
use Rattle.std.specs.FinMap as map
use Rattle.std.proofs.lemmas.Bool.{eqb-true}
use Rattle.std.proofs.lemmas.Bool.Decides.{eqb_tells}
use Rattle.ca_tree.specs.declared.numbers.SiteId.{SiteId}
use Rattle.ca_model.specs.declared.values.Value.{Value}
use Rattle.ca_model.specs.declared.values.Event.{Event}
use Rattle.ca_model.specs.declared.values.EventAct.{EventAct}
use Rattle.ca_model.specs.declared.values.EventAct.TheVariants as act
use Rattle.ca_model.specs.declared.values.FaultKind.{FaultKind}
use Rattle.ca_model.specs.declared.tree.Item.{Item}
use Rattle.ca_model.specs.Asks.{Want, Locks, Calls, Returns, Turns, Saves, Ended, Got, Is, Wants, No_result}
use Rattle.ca_model.specs.Items.{Done}
use Rattle.ca_model.specs.Laws.{OnWants}
use Rattle.ca_model.specs.Destroying.{wants_destroying}
use Rattle.ca_model.specs.Accesses.{Site, act_accesses}
use Rattle.ca_model.specs.Hopeless.{NoneCanChange}
use Rattle.ca_model.specs.Paths.{Before}
use Rattle.ca_model.specs.Codes.{Typed}
use Rattle.ca_model.specs.WellFormed.{IsWellFormed}
use Rattle.ca_model.specs.SourceRuns.{rules_of}
use Rattle.ca_model.specs.Plans.{IsSite}
use Rattle.ca_model.specs.Frames.{Code, Frame, begun, wanted}
use Rattle.ca_model.specs.Private.{Thread, last_want, stand, answer, may_fault, after_entry}
use Rattle.ca_model.specs.Machine.{State, Step, Run, own_of, private}
use Rattle.ca_model.proofs.Law.{one_of}
use Rattle.ca_model.proofs.FramesInPlace.{entry_is}
use Rattle.ca_erasure.proofs.Attempts.{no_end}
use Rattle.ca_erasure.proofs.SourceNames.{when_so}
use Rattle.ca_pruned.specs.Points.{bare}
use Rattle.ca_pruned.proofs.Asking.{Asked, By_item, By_turn, asked}
use Rattle.ca_pruned.proofs.Passing.{Nearer, Behind_still, In_it_still}
use Rattle.ca_pruned.proofs.Threads.{OnTheWay}
use Rattle.ca_pruned.proofs.Runs.{AreOnTheWay}
use Rattle.ca_pruned.proofs.Quiet.{changes, IsCalm}
use Rattle.ca_pruned.proofs.QuietItems.{act_quiet}
use Rattle.ca_pruned.proofs.Calm.{is_still, site_is_calm}
use Rattle.ca_pruned.specs.Pruned.{HasItsBlocks}
use Rattle.ca_model.specs.Shared.{Shared}
use Rattle.ca_model.proofs.Keeping.{entry_kept}
use Rattle.ca_erasure.proofs.Moving.{head_of, stands_after, others_stay}

-- what neither destroys nor changes has one entry, with one answer
abbrev IsTame : Want → Type 0
IsTame w = (wants_destroying w ≡ false) × (changes w ≡ false)

-- the entry that answers a tame want
the_answer : Want → EventAct
the_answer (Locks m s i) = act.Lock m
the_answer (Calls f xs) = act.Call f
the_answer Turns = act.Turn
the_answer _ = act.Save

answers_so : (w : Want) (e : EventAct) (y : Value) → IsTame w → answer w e ≡ Some y → the_answer w ≡ e
unfolding the_answer
answers_so (Locks m s i) (act.Lock k) y tame h = ap (λ n. act.Lock (record { 0 = n })) (eqb-true m.0 k.0 (when_so (m.0 == k.0) _ y h).0)
answers_so (Calls f xs) (act.Call g) y tame h = ap (λ n. act.Call (record { 0 = n })) (eqb-true f.0 g.0 (when_so (f.0 == g.0) _ y h).0)
answers_so Turns act.Turn y tame h = refl
answers_so Saves act.Save y tame h = refl
answers_so _ _ y tame h = absurd cc

no_fault : (w : Want) (e : EventAct) (y : Value) (k : FaultKind) → IsTame w → answer w e ≡ Some y → may_fault w k ≡ true → ⊥
no_fault (Locks m s i) e y k tame h may = absurd cc
no_fault (Calls f xs) e y k tame h may = absurd cc
no_fault Turns e y k tame h may = absurd cc
no_fault Saves e y k tame h may = absurd cc
no_fault _ e y k tame h may = absurd cc

last_changes : (w : Want) (fs : Thread) → changes w ≡ false → changes (last_want w fs) ≡ false
last_changes (Returns x) [] h = refl
last_changes (Returns x) (f ∷ fs) h = h
last_changes w fs h = h

-- a thread after a fault has no entry
pub none_after : (p : Typed) (es : List Event) (u v : State Thread) (t : ℕ) → Run (rules_of p) u es v → slice_get u.threads t ≡ Some [] → own_of t es ≡ []
none_after p [] u v t run at = refl
none_after p (e ∷ es) u v t (mid, st, run) at = elim (eqb_tells e.thread t) [
  | inl (b, is) ↦
      let same : st.before ≡ [] = one_of st.before [] (sym st.stands ∙ (ap (slice_get u.threads) is ∙ at)) in
      let goes : after_entry (stand (bare p) []) e.act ≡ Some st.after = ap (λ x. (rules_of p).advance x e.act) (sym same) ∙ st.own in
      elim (entry_is (stand (bare p) []) e.act st.after goes) [
        | inl (f, o) ↦ absurd (let no : may_fault Ended f.kind ≡ true = f.may in cc)
        | inr (y, ans, o) ↦ absurd (no_end e.act y ans)
      ]
  | inr (b, ne) ↦ ap (λ b. cond b (e.act ∷ own_of t es) (own_of t es)) b ∙ none_after p es mid v t run (others_stay (rules_of p) u mid e st t [] (λ same. ne (sym same)) at)
]

module _ (p : Typed) (wf : IsWellFormed p) (depth : ℕ) (s : Site) (n : SiteId) (is : IsSite p s n)
    (before : (j : Item) → Before p depth s.item j → NoneCanChange (act_accesses j.act)) (earlier : NoneCanChange s.earlier) where
  abbrev code : Code
  code = bare p

  -- what is wanted on the way doesn't change
  at_item : (k : ℕ) (f : Frame) (w : Want) → Asked p f.left f.locals f.answers w → Nearer p wf depth s.item n k f → changes w ≡ false
  at_item k f w (By_turn c head e) near = ap changes e
  at_item k f w (By_item i ys head run more) (Behind_still j at (a, path, go)) =
      let same : j ≡ i = head_of j i [] [] (sym at ∙ head) in
      let none : NoneCanChange (act_accesses i.act) = subst (λ (z : Item). NoneCanChange (act_accesses z.act)) same (before j (a, k, path, go)) in
      subst (OnWants (λ w. changes w ≡ false)) run ((act_quiet n i.act i.id f.locals (code.first_site i.id)).still (is_still (act_accesses i.act) none) ys)
  at_item k f w (By_item i ys head run more) (In_it_still at z x rest v wants site) =
      let same : s.item ≡ i = head_of s.item i [] [] (sym at ∙ head) in
      let calm = subst (λ (z : Item). IsCalm n (code.first_site z.id) (act_accesses z.act)) same (site_is_calm n p wf s is earlier) in
      (act_quiet n i.act i.id f.locals (code.first_site i.id)).calm calm ys rest x w v run (sym (more (x ∷ rest)) ∙ wants) site

  by_got : (g : Got Done) (k : ℕ) (f : Frame) (fs : Thread) → begun code f ≡ g → Nearer p wf depth s.item n k f → (e : EventAct) (y : Value) → answer (last_want (wanted g) fs) e ≡ Some y → changes (last_want (wanted g) fs) ≡ false
  by_got (Is d rest) k f fs at near e y h = refl
  by_got No_result k f fs at near e y h = refl
  by_got (Wants w) k f fs at near e y h =
      last_changes w fs (at_item k f w (asked p f.left f.locals f.answers w at (λ o. no_end e y (ap (λ w. answer (last_want w fs) e) (sym o) ∙ h))) near)

  tame : (x : Thread) (e : EventAct) → OnTheWay p wf depth s.item n x e → IsTame (stand code x).want
  tame [] e way = absurd way.0
  tame (f ∷ fs) e ((k, near), harmless, (y, ans)) = (harmless, by_got (begun code f) k f fs refl near e y ans)

  -- on the way there is one entry
  one_way : (x z : Thread) (c e : EventAct) → OnTheWay p wf depth s.item n x c → (rules_of p).advance x e ≡ Some z → e ≡ c
  one_way x z c e way goes =
      let t = tame x c way in
      let (y, ans) = way.2 in
      elim (entry_is (stand code x) e z goes) [
        | inl (f, o) ↦ absurd (no_fault (stand code x).want c y f.kind t ans f.may)
        | inr (y', ans', o) ↦ sym (answers_so (stand code x).want e y' t ans') ∙ answers_so (stand code x).want c y t ans
      ]

  module _ (old : Shared) (k : FaultKind) (y : Thread) (t : ℕ)
      (fails : (u mid : State Thread) (e : Event) (st : Step (rules_of p) u e mid) → e.thread ≡ t → st.before ≡ y → HasItsBlocks old u.shared → (e.act ≡ act.Fault k) × (st.after ≡ [])) where
    blocks_on : (u mid : State Thread) (e : Event) → Step (rules_of p) u e mid → HasItsBlocks old u.shared → HasItsBlocks old mid.shared
    blocks_on u mid e st has n x h =
        let (z, at, kept) = has n x h in
        let (w, now, more) = (entry_kept u.shared e.thread e.act st.legal).blocks n z at in
        (w, ap (λ (sh : Shared). map.get sh.blocks n) st.shared ∙ now, (more.0 ∙ kept.0, more.1 ∙ kept.1, λ dead. more.2 (kept.2 dead)))

    own_here : (e : Event) (es : List Event) → (e.thread == t) ≡ true → own_of t (e ∷ es) ≡ e.act ∷ own_of t es
    own_here e es b = ap (λ b. cond b (e.act ∷ own_of t es) (own_of t es)) b

    own_else : (e : Event) (es : List Event) → (e.thread == t) ≡ false → own_of t (e ∷ es) ≡ own_of t es
    own_else e es b = ap (λ b. cond b (e.act ∷ own_of t es) (own_of t es)) b

    -- from any state with the blocks its entries are a first part of those that led to the fault
    pub again : (es : List Event) (u v : State Thread) (x : Thread) (e : List EventAct) → private (rules_of p) (Some x) e ≡ Some y → AreOnTheWay p wf depth s.item n (Some x) e → slice_get u.threads t ≡ Some x → HasItsBlocks old u.shared
        → Run (rules_of p) u es v → (more : List EventAct) × (own_of t es ++ more ≡ e ++ act.Fault k ∷ [])
    again [] u v x e goes way at has run = (e ++ act.Fault k ∷ [], refl)
    again (a ∷ es) u v x [] goes way at has (mid, st, run) = elim (eqb_tells a.thread t) [
      | inl (b, is) ↦
          let same : st.before ≡ x = one_of st.before x (sym st.stands ∙ (ap (slice_get u.threads) is ∙ at)) in
          let f = fails u mid a st is (same ∙ one_of x y goes) has in
          let here : slice_get mid.threads t ≡ Some [] = ap (slice_get mid.threads) (sym is) ∙ (stands_after (rules_of p) u mid a st ∙ ap Some f.1) in
          ([], append-nil (own_of t (a ∷ es)) ∙ (own_here a es b ∙ (ap (λ o. a.act ∷ o) (none_after p es mid v t run here) ∙ ap (λ o. o ∷ []) f.0)))
      | inr (b, ne) ↦
          let r = again es mid v x [] goes way (others_stay (rules_of p) u mid a st t x (λ same. ne (sym same)) at) (blocks_on u mid a st has) run in
          (r.0, ap (λ o. o ++ r.0) (own_else a es b) ∙ r.1)
    ]
    again (a ∷ es) u v x (c ∷ e) goes way at has (mid, st, run) = elim (eqb_tells a.thread t) [
      | inl (b, is) ↦
          let same : st.before ≡ x = one_of st.before x (sym st.stands ∙ (ap (slice_get u.threads) is ∙ at)) in
          let own : (rules_of p).advance x a.act ≡ Some st.after = ap (λ z. (rules_of p).advance z a.act) (sym same) ∙ st.own in
          let one : a.act ≡ c = one_way x st.after c a.act way.0.1 own in
          let next : (rules_of p).advance x c ≡ Some st.after = ap ((rules_of p).advance x) (sym one) ∙ own in
          let here : slice_get mid.threads t ≡ Some st.after = ap (slice_get mid.threads) (sym is) ∙ stands_after (rules_of p) u mid a st in
          let r = again es mid v st.after e (subst (λ o. private (rules_of p) o e ≡ Some y) next goes) (subst (λ o. AreOnTheWay p wf depth s.item n o e) next way.1) here (blocks_on u mid a st has) run in
          (r.0, ap (λ o. o ++ r.0) (own_here a es b) ∙ (ap (λ o. a.act ∷ o) r.1 ∙ ap (λ o. o ∷ (e ++ act.Fault k ∷ [])) one))
      | inr (b, ne) ↦
          let r = again es mid v x (c ∷ e) goes way (others_stay (rules_of p) u mid a st t x (λ same. ne (sym same)) at) (blocks_on u mid a st has) run in
          (r.0, ap (λ o. o ++ r.0) (own_else a es b) ∙ r.1)
    ]
