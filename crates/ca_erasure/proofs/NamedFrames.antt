-- The values that the threads of a source name.
use Rattle.std.proofs.Common.{◌≡◌, ℕ, zero, suc, List, [], ◌∷◌, ◌++◌, length, Option, Some, None, refl, sym, ap, ◌∙◌, subst, inl, inr}
use Rattle.std.specs.Prelude.{take, replicate, slice_get, Contains}
use Rattle.std.proofs.lemmas.List.Elements.{Contains-append_left, Contains-append_right}
use Rattle.ca_tree.specs.declared.numbers.FunId.{FunId}
use Rattle.ca_model.specs.declared.values.Value.{Value}
use Rattle.ca_model.specs.declared.values.FaultKind.TheVariants as fault
use Rattle.ca_model.specs.declared.values.EventAct.{EventAct}
use Rattle.ca_model.specs.declared.tree.Item.{Item}
use Rattle.ca_model.specs.declared.tree.Stmt.{Stmt, out-Stmt}
use Rattle.ca_model.specs.declared.tree.Stmt.TheOpen.{Stmt-F}
use Rattle.ca_model.specs.declared.tree.Function.{Function}
use Rattle.ca_model.specs.Arith.{null}
use Rattle.ca_model.specs.Asks.{Want, Calls, Returns, Turns, Ended, Faults, Got, Is, Wants, No_result}
use Rattle.ca_model.specs.Items.{Done}
use Rattle.ca_model.specs.Begun.{IsReturn, InProgress, opening_item}
use Rattle.ca_model.specs.Follows.{first_head, heads_by, with_answer}
use Rattle.ca_model.specs.Codes.{Typed, code_of}
use Rattle.ca_model.specs.WellFormed.{IsWellFormed}
use Rattle.ca_model.specs.Source.{plain}
use Rattle.ca_model.specs.SourceRuns.{no_plan}
use Rattle.ca_model.specs.Frames.{Code, Left, Enter, Begin, After, Run, Loop, Next, Leave, Frame, item_run, stmt_run, first_run, begun, wanted, gives_way, settle, answered, entered, frame_of, first_weight}
use Rattle.ca_model.specs.Private.{Thread, last_want, stand_at, stand, gone, answer, after_entry}
use Rattle.ca_model.proofs.Law.{one_of}
use Rattle.ca_model.proofs.Silent.{step_by}
use Rattle.ca_model.specs.Sites.{all_items}
use Rattle.ca_model.proofs.Members.{at_head, in_none, in_one}
use Rattle.ca_erasure.proofs.Standing.{one_head}
use Rattle.ca_model.proofs.FramesInPlace.{AreInPlace, entry_is}
use Rattle.ca_model.specs.KnownGlobals.{KnowsItsGlobals}
use Rattle.ca_erasure.proofs.Attempts.{no_end, no_arith}
use Rattle.ca_erasure.proofs.KnownItems.{AllKnown, heads_known, answer_known, start_known}
use Rattle.ca_erasure.proofs.NamedItems.{Closed, Each, InWant, Named, Names, names_then, names_ask, act_named}

-- of a frame, and of all frames of a thread
abbrev pub FrameNamed : (Value → Type 0) → Frame → Type 0
FrameNamed K f = Each K f.locals × Each K f.answers

abbrev pub ThreadNamed : (Value → Type 0) → Thread → Type 0
ThreadNamed K [] = Unit {0}
ThreadNamed K (f ∷ fs) = FrameNamed K f × ThreadNamed K fs

module _ (p : Typed) (wf : IsWellFormed p) (within : KnowsItsGlobals p) where
  abbrev pub bare : Code
  bare = plain (code_of p no_plan)

  module _ (K : Value → Type 0) (c : Closed (length p.globals) K) where
    abbrev D : Done → Type 0
    D d = Each K d.locals

    item_named : (i : Item) (l : List Value) → Contains (all_items p.functions) i → Each K l → Names K D (item_run bare i l)
    item_named i l known m = act_named (length p.globals) K c i.act i.id l (bare.first_site i.id) (within.names i known) m

    stmt_named : (x : Stmt-F Stmt) (l : List Value) → AllKnown p wf no_plan (opening_item x) → Each K l → Names K D (stmt_run bare x l)
    stmt_named (Stmt-F.Item i) l known m = item_named i l (known i (at_head i [])) m
    stmt_named (Stmt-F.If i a b) l known m = item_named i l (known i (at_head i [])) m
    stmt_named _ l known m = λ xs a. (m, a)

    first_named : (ls : List Left) (l : List Value) → AllKnown p wf no_plan (first_head ls) → Each K l → Names K D (first_run bare ls l)
    first_named [] l known m = λ xs a. tt
    first_named (Enter f ∷ ls) l known m = λ xs a. (m, a)
    first_named (After i ∷ ls) l known m = λ xs a. (m, a)
    first_named (Begin i ∷ ls) l known m = item_named i l (known i (at_head i [])) m
    first_named (Run s ∷ ls) l known m = stmt_named (out-Stmt s) l known m
    first_named (Loop i body step ∷ ls) l known m = names_then (length p.globals) K c K D _ _ (names_ask (length p.globals) K c Turns tt) (λ x k. item_named i l (known i (at_head i [])) m)
    first_named (Next ∷ ls) l known m = λ xs a. (m, a)
    first_named (Leave ∷ ls) l known m = λ xs a. (m, a)

    -- silent steps name nothing new
    step_named : (n : ℕ) (f : Frame) (g : Got Done) → Named K D g → FrameNamed K f → AllKnown p wf no_plan (elim g [ Is d rest ↦ heads_by bare n (gives_way f d rest) | Wants w ↦ [] | No_result ↦ [] ])
        → ((h : Frame) → AllKnown p wf no_plan (heads_by bare n h) → FrameNamed K h → FrameNamed K (settle bare n h)) → FrameNamed K (step_by bare n f g)
    step_named n f (Is d rest) named h known more = more (gives_way f d rest) known named
    step_named n f (Wants w) named h known more = h
    step_named n f No_result named h known more = h

    settle_named : (n : ℕ) (f : Frame) → AllKnown p wf no_plan (heads_by bare n f) → FrameNamed K f → FrameNamed K (settle bare n f)
    settle_named zero f known h = h
    settle_named (suc n) f known h =
        let rest : List Item = elim (begun bare f) [ Is d rest ↦ heads_by bare n (gives_way f d rest) | Wants w ↦ [] | No_result ↦ [] ] in
        step_named n f (begun bare f) (first_named f.left f.locals (λ i c. known i (Contains-append_left (first_head f.left) rest i c)) h.0 f.answers h.1) h (λ i c. known i (Contains-append_right (first_head f.left) rest i c)) (settle_named n)

    each_append : (xs ys : List Value) → Each K xs → Each K ys → Each K (xs ++ ys)
    each_append [] ys a b = b
    each_append (x ∷ xs) ys a b = (a.0, each_append xs ys a.1 b)

    pub each_same : (n : ℕ) (x : Value) → K x → Each K (replicate n x)
    each_same zero x k = tt
    each_same (suc n) x k = (k, each_same n x k)

    each_taken : (n : ℕ) (xs : List Value) → Each K xs → Each K (take n xs)
    each_taken zero xs a = tt
    each_taken (suc n) [] a = tt
    each_taken (suc n) (x ∷ xs) a = (a.0, each_taken n xs a.1)

    entered_named : (g : FunId) (xs : List Value) (o : Option Function) → Each K xs → FrameNamed K (entered g xs o)
    entered_named g xs None a = (a, tt)
    entered_named g xs (Some h) a = (each_taken h.locals _ (each_append xs (replicate h.locals null) a (each_same h.locals null (c.number _))), tt)

    pub frame_named : (g : FunId) (xs : List Value) → Each K xs → FrameNamed K (frame_of bare g xs)
    frame_named g xs a =
        let f : Frame = entered g xs (slice_get bare.functions g.0) in
        settle_named (first_weight f.left) f (start_known p wf no_plan g xs (first_weight f.left)) (entered_named g xs (slice_get bare.functions g.0) a)

    something_left : (f : Frame) (w : Want) → begun bare f ≡ Wants w → (w ≡ Ended → ⊥) → f.left ≡ [] → ⊥
    something_left f w is none at = none (ap wanted (sym is ∙ ap (λ l. first_run bare l f.locals f.answers) at))

    answered_named : (f : Frame) (w : Want) (x : Value) → InProgress bare f → begun bare f ≡ Wants w → (IsReturn w → ⊥) → (w ≡ Ended → ⊥) → FrameNamed K f → K x → FrameNamed K (answered bare f x)
    answered_named f w x progress is other none h k =
        settle_named (first_weight f.left) (with_answer f x) (answer_known p wf no_plan f w x (first_weight f.left) progress is other (something_left f w is none)) (h.0, each_append f.answers (x ∷ []) h.1 (k, tt))

    gone_named : (w : Want) (y : Value) (f : Frame) (fs : Thread) → begun bare f ≡ Wants w → AreInPlace bare (InProgress bare) (f ∷ fs) → ThreadNamed K (f ∷ fs) → InWant K w → (w ≡ Ended → ⊥) → K y → ThreadNamed K (gone bare w y f fs)
    gone_named (Calls g xs) y f fs is all h w none k = (frame_named g xs w, h)
    gone_named (Returns x) y f [] is all h w none k = tt
    gone_named (Returns x) y f (caller ∷ fs) is all h w none k =
        let r = all.1.0 in
        (answered_named caller (Calls r.1.0 r.1.1) x r.0 r.1.2 (λ no. no) (λ e. cc) h.1.0 w, h.1.1)
    gone_named w y f fs is all h k none j = (answered_named f w y all.0 is (λ no. no) none h.0 j, h.1)

    known_by : (ls : List Left) (hs : List Item) → first_head ls ≡ hs → ((i : Item) → hs ≡ i ∷ [] → Contains (all_items p.functions) i) → AllKnown p wf no_plan hs
    known_by ls [] at known i c = absurd (in_none i c)
    known_by ls (j ∷ []) at known i c = subst (Contains (all_items p.functions)) (in_one j i c) (known j refl)
    known_by ls (j ∷ m ∷ is) at known i c = absurd (one_head ls j m is at)

    last_named : (w : Want) (fs : Thread) → InWant K w → InWant K (last_want w fs)
    last_named (Returns x) [] h = tt
    last_named (Returns x) (f ∷ fs) h = h
    last_named w fs h = h

    got_named : (g : Got Done) → Named K D g → InWant K (wanted g)
    got_named (Is d rest) h = tt
    got_named (Wants w) h = h
    got_named No_result h = tt

    begun_named : (f : Frame) → InProgress bare f → FrameNamed K f → Named K D (begun bare f)
    begun_named f progress h = first_named f.left f.locals (known_by f.left (first_head f.left) refl (λ i at. heads_known p wf no_plan f progress i at)) h.0 f.answers h.1

    -- what a thread asks with
    pub want_named : (fs : Thread) → AreInPlace bare (InProgress bare) fs → ThreadNamed K fs → InWant K (stand bare fs).want
    want_named [] all h = tt
    want_named (f ∷ fs) all h = last_named (wanted (begun bare f)) fs (got_named (begun bare f) (begun_named f all.0 h.0))

    by_got : (g : Got Done) (f : Frame) (fs : Thread) (a : EventAct) (t : Thread) → begun bare f ≡ g → after_entry (stand_at bare (wanted g) f fs) a ≡ Some t → AreInPlace bare (InProgress bare) (f ∷ fs) → ThreadNamed K (f ∷ fs)
        → ((y : Value) → answer (last_want (wanted g) fs) a ≡ Some y → K y) → ThreadNamed K t
    by_got (Is d rest) f fs a t is h all named k = elim (entry_is (stand_at bare Ended f fs) a t h) [
      | inl (j, e) ↦ subst (ThreadNamed K) (one_of [] t e) tt
      | inr (y, ans, e) ↦ absurd (no_end a y ans)
    ]
    by_got No_result f fs a t is h all named k = elim (entry_is (stand_at bare (Faults fault.Arith) f fs) a t h) [
      | inl (j, e) ↦ subst (ThreadNamed K) (one_of [] t e) tt
      | inr (y, ans, e) ↦ absurd (no_arith fault.Arith a y ans)
    ]
    by_got (Wants w) f fs a t is h all named k = elim (entry_is (stand_at bare w f fs) a t h) [
      | inl (j, e) ↦ subst (ThreadNamed K) (one_of [] t e) tt
      | inr (y, ans, e) ↦
          let asks : InWant K w = subst (Named K D) is (begun_named f all.0 named.0) in
          subst (ThreadNamed K) (one_of (gone bare w y f fs) t e) (gone_named w y f fs is all named asks (λ e. no_end a y (ap (λ w. answer (last_want w fs) a) (sym e) ∙ ans)) (k y ans))
    ]

    -- after an entry whose answer is named
    pub entry_named : (fs : Thread) (a : EventAct) (t : Thread) → after_entry (stand bare fs) a ≡ Some t → AreInPlace bare (InProgress bare) fs → ThreadNamed K fs → ((y : Value) → answer (stand bare fs).want a ≡ Some y → K y) → ThreadNamed K t
    entry_named [] a t h all named k = elim (entry_is (stand bare []) a t h) [
      | inl (j, e) ↦ subst (ThreadNamed K) (one_of [] t e) tt
      | inr (y, ans, e) ↦ absurd (no_end a y ans)
    ]
    entry_named (f ∷ fs) a t h all named k = by_got (begun bare f) f fs a t refl h all named k
