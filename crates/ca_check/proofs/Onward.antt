-- A lifted list is made entry by entry, where each save comes before its thread's next entry.
use Rattle.std.proofs.Common.{◌≡◌, ℕ, Bool, true, false, cond, List, [], ◌∷◌, ◌++◌, length, drop, Some, refl, sym, ap, ◌∙◌, subst, inl, inr, append_assoc}
use Rattle.std.specs.Prelude.{◌||◌}
use Rattle.std.proofs.Math.Seq.{drop-length}
use Rattle.std.proofs.lemmas.List.{append-nil}
use Rattle.std.proofs.lemmas.Bool.{cases_Bool}
use Rattle.ca_model.specs.declared.values.Event.{Event}
use Rattle.ca_model.specs.declared.values.EventAct.{EventAct}
use Rattle.ca_model.specs.declared.values.EventAct.TheVariants as act
use Rattle.ca_model.specs.Frames.{Code}
use Rattle.ca_model.specs.Private.{stand, answer, may_fault}
use Rattle.ca_model.specs.Machine.{Rules, State, Step, Run, by}
use Rattle.ca_model.specs.Projection.{is_mark, abandoned, projection}
use Rattle.ca_model.specs.Hardened.{Hardened, hardened, hardened_advance}
use Rattle.ca_model.specs.Codes.{Typed, code_of}
use Rattle.ca_model.specs.Opening.{opening}
use Rattle.ca_model.proofs.Law.{one_of}
use Rattle.ca_model.proofs.FramesInPlace.{entry_is}
use Rattle.ca_model.proofs.HardenedInPlace.{saves_is}
use Rattle.ca_erasure.specs.Lifted.{is_retry, is_save, HasNoRetry, SavesStandBefore, IsLifted}
use Rattle.ca_erasure.proofs.Attempts.{no_save}
use Rattle.ca_erasure.proofs.Doomed.{stepped}
use Rattle.ca_erasure.proofs.Lifting.{none_abandoned}
use Rattle.ca_machine.specs.Machines.{Traced, Reaches, rules, went}
use Rattle.ca_check.specs.Ways.{IsOnWay, IsNext, IsBeside}
use Rattle.ca_check.proofs.Passing.{one_state}

-- lists

save_is : (a : EventAct) → is_save a ≡ true → a ≡ act.Save
save_is act.Save h = refl
save_is _ h = absurd cc

save_marks : (a : EventAct) (b : Bool) → is_save a ≡ true → (is_mark a || b) ≡ true
save_marks act.Save b h = refl
save_marks _ b h = absurd cc

no_mark : (a : EventAct) → is_save a ≡ false → is_retry a ≡ false → is_mark a ≡ false
no_mark act.Save h k = absurd cc
no_mark (act.Retry site gs) h k = absurd cc
no_mark _ h k = refl

same_event : (d : Event) (t : ℕ) → d.thread ≡ t → d.act ≡ act.Save → d ≡ by t act.Save
same_event d t i j = λ x. record { thread = i x; act = j x }

no_retry_behind : (xs ys : List Event) → HasNoRetry (xs ++ ys) → HasNoRetry ys
no_retry_behind [] ys h = h
no_retry_behind (x ∷ xs) ys h = no_retry_behind xs ys h.1

saves_behind : (xs ys : List Event) → SavesStandBefore (xs ++ ys) → SavesStandBefore ys
saves_behind [] ys h = h
saves_behind (x ∷ xs) ys h = saves_behind xs ys h.1

saved_out : (d : Event) (ds : List Event) → is_save d.act ≡ true → projection (d ∷ ds) ≡ projection ds
saved_out d ds h = ap (λ b. cond b (projection ds) (d ∷ projection ds)) (save_marks d.act (abandoned d.thread ds) h)

kept_in : (d : Event) (ds : List Event) → is_save d.act ≡ false → HasNoRetry (d ∷ ds) → projection (d ∷ ds) ≡ d ∷ projection ds
kept_in d ds h none =
    ap (λ b. cond (b || abandoned d.thread ds) (projection ds) (d ∷ projection ds)) (no_mark d.act h none.0)
    ∙ ap (λ b. cond b (projection ds) (d ∷ projection ds)) (none_abandoned d.thread ds none.1)

-- a list begins with an entry of the thread with which its projection begins
abbrev Leads : Event → List Event → Type 0
Leads d ds = (e : Event) × (es : List Event) × (projection (d ∷ ds) ≡ e ∷ es) × (e.thread ≡ d.thread)

leads : (ds : List Event) (d : Event) → HasNoRetry (d ∷ ds) → SavesStandBefore (d ∷ ds) → Leads d ds
leads [] d none before = elim (cases_Bool (is_save d.act)) [
  | inl save ↦ absurd (before.0 save)
  | inr plain ↦ (d, [], kept_in d [] plain none, refl)
]
leads (f ∷ fs) d none before = elim (cases_Bool (is_save d.act)) [
  | inl save ↦
      let r = leads fs f none.1 before.1 in
      (r.0, r.1, saved_out d (f ∷ fs) save ∙ r.2, r.3 ∙ before.0 save)
  | inr plain ↦ (d, projection (f ∷ fs), kept_in d (f ∷ fs) plain none, refl)
]

-- what stands before an entry of the projection: a save of its thread, or nothing
data Front (e : Event) (es rest : List Event) : Type 0 where
  A_save : (ds : List Event) → rest ≡ by e.thread act.Save ∷ ds → projection ds ≡ e ∷ es → Front e es rest
  An_entry : (ds : List Event) → rest ≡ e ∷ ds → projection ds ≡ es → is_save e.act ≡ false → is_retry e.act ≡ false → Front e es rest

front : (e : Event) (es rest : List Event) → HasNoRetry rest → SavesStandBefore rest → projection rest ≡ e ∷ es → Front e es rest
front e es [] none before is = absurd cc
front e es (d ∷ ds) none before is = elim (cases_Bool (is_save d.act)) [
  | inl save ↦
      let r = leads ds d none before in
      let same : ◌≡◌ {A = List Event} (e ∷ es) (r.0 ∷ r.1) = sym is ∙ r.2 in
      let first : e ≡ r.0 = cc in
      let own : d.thread ≡ e.thread = sym (ap (λ (x : Event). x.thread) first ∙ r.3) in
      A_save ds (ap (λ (x : Event). x ∷ ds) (same_event d e.thread own (save_is d.act save))) (sym (saved_out d ds save) ∙ is)
  | inr plain ↦
      let same : ◌≡◌ {A = List Event} (d ∷ projection ds) (e ∷ es) = sym (kept_in d ds plain none) ∙ is in
      let first : d ≡ e = cc in
      let more : projection ds ≡ es = cc in
      An_entry ds (ap (λ (x : Event). x ∷ ds) first) more (ap (λ (x : Event). is_save x.act) (sym first) ∙ plain) (ap (λ (x : Event). is_retry x.act) (sym first) ∙ none.0)
]

nothing_left : (rest : List Event) → HasNoRetry rest → SavesStandBefore rest → projection rest ≡ [] → rest ≡ []
nothing_left [] none before is = refl
nothing_left (d ∷ ds) none before is = absurd (let r = leads ds d none before in let never : ◌≡◌ {A = List Event} [] (r.0 ∷ r.1) = sym is ∙ r.2 in cc)

-- runs

cut : (r : Rules Hardened) (xs ys : List Event) (old new : State Hardened) → Run r old (xs ++ ys) new → (mid : State Hardened) × Run r old xs mid × Run r mid ys new
cut r [] ys old new run = (old, refl, run)
cut r (x ∷ xs) ys old new (next, step, run) = let c = cut r xs ys next new run in (c.0, (next, step, c.1), c.2)

-- at a save a thread makes no other entry
never_both : (code : Code) (h : Hardened) (a : EventAct) (x y : Hardened) → hardened_advance code h act.Save ≡ Some x → hardened_advance code h a ≡ Some y → is_mark a ≡ false → ⊥
never_both code h a x y s e plain =
    let saves = (saves_is (stand code h.frames).want (stand code h.frames).go x s).0 in
    let parts = stepped code h a y e plain in
    elim (entry_is (stand code h.frames) a parts.0 parts.2) [
      | inl (k, o) ↦ absurd (let never : false ≡ true = ap (λ w. may_fault w k.kind) (sym saves) ∙ k.may in cc)
      | inr (z, ans, o) ↦ absurd (no_save a z (ap (λ w. answer w a) (sym saves) ∙ ans) plain)
    ]

one_or_other : (code : Code) (s m n : State Hardened) (e : Event) → Step (hardened code) s (by e.thread act.Save) m → Step (hardened code) s e n → is_mark e.act ≡ false → ⊥
one_or_other code s m n e a b plain =
    let is : a.before ≡ b.before = one_of a.before b.before (sym a.stands ∙ b.stands) in
    never_both code b.before e.act a.after b.after (subst (λ (h : Hardened). hardened_advance code h act.Save ≡ Some a.after) is a.own) b.own plain

-- a machine on its way along a lifted list

abbrev Listed : Traced → List Event → List Event → Type 0
Listed m events list = IsLifted m.source m.plan events list

abbrev Go : Traced → State Hardened → Event → Type 0
Go m s d = (new : State Hardened) × Step (rules m) s d new

-- the next entry of the list is a step
step_on : (m : Traced) (events rest : List Event) (d : Event) (s : State Hardened) → Listed m events (m.trace ++ d ∷ rest) → Reaches m s → Go m s d
step_on m events rest d s l run =
    let c = cut (rules m) m.trace (d ∷ rest) (opening (rules m) m.source) l.last l.run in
    let same : c.0 ≡ s = one_state (rules m) m.trace (opening (rules m) m.source) c.0 s c.1 run in
    (c.2.0, subst (λ (x : State Hardened). Step (rules m) x d c.2.0) same c.2.1)

-- one entry more is made
made : (m : Traced) (events rest : List Event) (d : Event) → Listed m events (m.trace ++ d ∷ rest) → Listed m events ((m.trace ++ d ∷ []) ++ rest)
made m events rest d l = subst (Listed m events) (sym (append_assoc m.trace (d ∷ []) rest)) l

as_front : (m : Traced) (events xs ys : List Event) → xs ≡ ys → Listed m events (m.trace ++ xs) → Listed m events (m.trace ++ ys)
as_front m events xs ys is l = subst (λ l. Listed m events (m.trace ++ l)) is l

front_of : (m : Traced) (events left : List Event) (e : Event) → (w : IsOnWay m events (e ∷ left)) → Front e left w.rest
front_of m events left e w = front e left w.rest (no_retry_behind m.trace w.rest w.lifted.no_retry) (saves_behind m.trace w.rest w.lifted.before) w.projected

-- a save of the thread is made
pub with_save : (m : Traced) (events left : List Event) (e : Event) (s : State Hardened) → IsOnWay m events (e ∷ left) → Reaches m s → Go m s (by e.thread act.Save) → IsOnWay (went m (by e.thread act.Save)) events (e ∷ left)
with_save m events left e s w run step = elim (front_of m events left e w) [
  | A_save ds is behind ↦ record { rest = ds; lifted = made m events ds (by e.thread act.Save) (as_front m events w.rest (by e.thread act.Save ∷ ds) is w.lifted); projected = behind }
  | An_entry ds is behind plain first ↦
      let next = step_on m events ds e s (as_front m events w.rest (e ∷ ds) is w.lifted) run in
      absurd (one_or_other (code_of m.source m.plan) s step.0 next.0 e step.1 next.1 (no_mark e.act plain first))
]

-- no save of the thread is possible: its entry comes next
pub without_save : (m : Traced) (events left : List Event) (e : Event) (s : State Hardened) → IsOnWay m events (e ∷ left) → Reaches m s → (Go m s (by e.thread act.Save) → ⊥) → IsNext m events e left
without_save m events left e s w run none = elim (front_of m events left e w) [
  | A_save ds is behind ↦ absurd (none (step_on m events ds (by e.thread act.Save) s (as_front m events w.rest (by e.thread act.Save ∷ ds) is w.lifted) run))
  | An_entry ds is behind plain first ↦ record { rest = ds; lifted = as_front m events w.rest (e ∷ ds) is w.lifted; projected = behind }
]

pub can_go : (m : Traced) (events left : List Event) (e : Event) (s : State Hardened) → IsNext m events e left → Reaches m s → Go m s e
can_go m events left e s n run = step_on m events n.rest e s n.lifted run

pub with_entry : (m : Traced) (events left : List Event) (e : Event) → IsNext m events e left → IsOnWay (went m e) events left
with_entry m events left e n = record { rest = n.rest; lifted = made m events n.rest e n.lifted; projected = n.projected }

pub at_first : (m : Traced) (events list : List Event) → m.trace ≡ [] → Listed m events list → IsOnWay m events events
at_first m events list none l = record { rest = list; lifted = subst (λ t. Listed m events (t ++ list)) (sym none) l; projected = l.projected }

pub at_last : (m : Traced) (events : List Event) → IsOnWay m events [] → Listed m events m.trace
at_last m events w =
    let none : w.rest ≡ [] = nothing_left w.rest (no_retry_behind m.trace w.rest w.lifted.no_retry) (saves_behind m.trace w.rest w.lifted.before) w.projected in
    subst (Listed m events) (ap (λ l. m.trace ++ l) none ∙ append-nil m.trace) w.lifted

pub saved_on : (m n : Traced) (t : ℕ) (s : State Hardened) → Reaches m s → n ≡ went m (by t act.Save) → Go m s (by t act.Save) → (events left : List Event) (e : Event) → e.thread ≡ t → IsOnWay m events (e ∷ left) → IsOnWay n events (e ∷ left)
saved_on m n t s run is step events left e own w =
    subst (λ (x : Traced). IsOnWay x events (e ∷ left)) (sym is) (subst (λ t. IsOnWay (went m (by t act.Save)) events (e ∷ left)) own
    (with_save m events left e s w run (subst (λ t. Go m s (by t act.Save)) (sym own) step)))

pub comes_next : (m n : Traced) (t : ℕ) (s : State Hardened) → Reaches m s → n ≡ m → (Go m s (by t act.Save) → ⊥) → (events left : List Event) (e : Event) → e.thread ≡ t → IsOnWay m events (e ∷ left) → IsNext n events e left
comes_next m n t s run is none events left e own w =
    subst (λ (x : Traced). IsNext x events e left) (sym is) (without_save m events left e s w run (subst (λ t. Go m s (by t act.Save) → ⊥) (sym own) none))

pub entered_on : (m n : Traced) (e : Event) → n ≡ went m e → (events left : List Event) → IsNext m events e left → IsOnWay n events left
entered_on m n e is events left next = subst (λ (x : Traced). IsOnWay x events left) (sym is) (with_entry m events left e next)

pub beside_on : (a m n : Traced) (e : Event) → IsBeside a m → n ≡ went m e → IsBeside a n
beside_on a m n e b is = record { source = ap (λ (x : Traced). x.source) is ∙ b.source; plan = ap (λ (x : Traced). x.plan) is ∙ b.plan }

pub all_made : (a m : Traced) (events : List Event) (i : ℕ) → IsBeside a m → i ≡ length events → IsOnWay m events (drop i events) → IsLifted a.source a.plan events m.trace
all_made a m events i b all w =
    let none : drop i events ≡ [] = ap (λ n. drop n events) all ∙ drop-length events in
    let here : Listed m events m.trace = at_last m events (subst (IsOnWay m events) none w) in
    subst (λ plan. IsLifted a.source plan events m.trace) b.plan (subst (λ (p : Typed). IsLifted p m.plan events m.trace) b.source here)
