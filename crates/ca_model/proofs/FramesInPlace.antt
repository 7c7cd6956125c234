-- What holds of a frame through answers, calls and creates holds of all frames of a thread.
use Rattle.std.proofs.Common.{◌≡◌, Bool, true, false, List, [], ◌∷◌, Option, Some, None, refl, sym, ap, ◌∙◌, subst, inl, inr}
use Rattle.std.specs.Prelude.{◌⊎◌, if◌then◌else◌}
use Rattle.ca_model.proofs.Law.{one_of}
use Rattle.ca_tree.specs.declared.numbers.FunId.{FunId}
use Rattle.ca_model.specs.declared.values.Value.{Value}
use Rattle.ca_model.specs.declared.values.FaultKind.{FaultKind}
use Rattle.ca_model.specs.declared.values.FaultKind.TheVariants as fault
use Rattle.ca_model.specs.declared.values.EventAct.{EventAct}
use Rattle.ca_model.specs.declared.values.EventAct.TheVariants as act
use Rattle.ca_model.specs.Asks.{Want, Creates, Calls, Returns, Faults, Ended, Got, Is, Wants, No_result}
use Rattle.ca_model.specs.Items.{Done}
use Rattle.ca_model.specs.Frames.{Code, Frame, begun, wanted, answered, frame_of}
use Rattle.ca_model.specs.Begun.{IsReturn}
use Rattle.ca_model.specs.Private.{Thread, Stand, gone, last_want, stand_at, stand, answer, may_fault, going_on, after_entry}

-- an entry that is a fault which may come
pub record IsFault (w : Want) (a : EventAct) : Type 0 where
  pub kind : FaultKind
  pub is : a ≡ act.Fault kind
  pub may : may_fault w kind ≡ true

going : (s : Stand) (o : Option Value) (t : Thread) → going_on s o ≡ Some t → (y : Value) × (o ≡ Some y) × (Some (s.go y) ≡ Some t)
going s None t h = cc
going s (Some y) t h = (y, refl, h)

faulting : (b : Bool) (t : Thread) → (if b then Some [] else None) ≡ Some t → (b ≡ true) × (Some [] ≡ Some t)
faulting true t h = (refl, h)
faulting false t h = cc

-- an entry of its own is such a fault, or answers what the thread wants
pub entry_is : (s : Stand) (a : EventAct) (t : Thread) → after_entry s a ≡ Some t
    → (IsFault s.want a × (Some [] ≡ Some t)) ⊎ ((y : Value) × (answer s.want a ≡ Some y) × (Some (s.go y) ≡ Some t))
entry_is s (act.Fault k) t h = let parts = faulting (may_fault s.want k) t h in inl (record { kind = k; is = refl; may = parts.0 }, parts.1)
entry_is s a t h = inr (going s (answer s.want a) t h)

-- the end of a thread, or a fault
abbrev pub IsLast : EventAct → Type 0
IsLast act.End = Unit {0}
IsLast (act.Fault k) = Unit {0}
IsLast _ = ⊥

abbrev pub HasFrames : Thread → Type 0
HasFrames [] = ⊥
HasFrames (f ∷ fs) = Unit {0}

-- a thread at the end of its frames, or at a fault of values, answers nothing
none_at_the_end : (a : EventAct) (y : Value) → answer Ended a ≡ Some y → ⊥
none_at_the_end a y h = cc

none_after_arith : (a : EventAct) (y : Value) → answer (Faults fault.Arith) a ≡ Some y → ⊥
none_after_arith a y h = cc

module _ (code : Code) (G : Frame → Type 0) where
  abbrev pub IsCalling : Frame → Type 0
  IsCalling f = (g : FunId) × (xs : List Value) × (begun code f ≡ Wants (Calls g xs))

  abbrev pub AreCallers : Thread → Type 0
  AreCallers [] = Unit {0}
  AreCallers (f ∷ fs) = (G f × IsCalling f) × AreCallers fs

  -- it holds of each frame, and all but the innermost wait for a call
  abbrev pub AreInPlace : Thread → Type 0
  AreInPlace [] = Unit {0}
  AreInPlace (f ∷ fs) = G f × AreCallers fs

  module _ (on_answer : (f : Frame) (w : Want) (x : Value) → G f → begun code f ≡ Wants w → (IsReturn w → ⊥) → G (answered code f x))
      (on_call : (f : Frame) (g : FunId) (xs : List Value) → G f → begun code f ≡ Wants (Calls g xs) → G (frame_of code g xs)) where
    gone_in_place : (w : Want) (y : Value) (f : Frame) (fs : Thread) → begun code f ≡ Wants w → AreInPlace (f ∷ fs) → AreInPlace (gone code w y f fs)
    gone_in_place (Calls g xs) y f fs is h = (on_call f g xs h.0 is, ((h.0, (g, xs, is)), h.1))
    gone_in_place (Returns x) y f [] is h = tt
    gone_in_place (Returns x) y f (caller ∷ fs) is h =
        let c = h.1.0 in (on_answer caller (Calls c.1.0 c.1.1) x c.0 c.1.2 (λ no. no), h.1.1)
    gone_in_place w y f fs is h = (on_answer f w y h.0 is (λ no. no), h.1)

    gone_has_frames : (w : Want) (a : EventAct) (x y : Value) (f : Frame) (fs : Thread) → answer (last_want w fs) a ≡ Some x → HasFrames (gone code w y f fs) ⊎ IsLast a
    gone_has_frames (Calls g xs) a x y f fs h = inl tt
    gone_has_frames (Returns r) act.End x y f [] h = inr tt
    gone_has_frames (Returns r) _ x y f [] h = cc
    gone_has_frames (Returns r) a x y f (caller ∷ fs) h = inl tt
    gone_has_frames w a x y f fs h = inl tt

    after_fault : (w : Want) (a : EventAct) (t : Thread) → IsFault w a → Some [] ≡ Some t → AreInPlace t × (HasFrames t ⊎ IsLast a)
    after_fault w a t k e = (subst AreInPlace (one_of [] t e) tt, inr (subst IsLast (sym k.is) tt))

    -- after an entry of its own
    by_got : (g : Got Done) (f : Frame) (fs : Thread) (a : EventAct) (t : Thread) → begun code f ≡ g → after_entry (stand_at code (wanted g) f fs) a ≡ Some t → AreInPlace (f ∷ fs)
        → AreInPlace t × (HasFrames t ⊎ IsLast a)
    by_got (Is d rest) f fs a t is h all =
        elim (entry_is (stand_at code Ended f fs) a t h) [
          | inl (k, e) ↦ after_fault Ended a t k e
          | inr (y, ans, e) ↦ absurd (none_at_the_end a y ans)
        ]
    by_got No_result f fs a t is h all =
        elim (entry_is (stand_at code (Faults fault.Arith) f fs) a t h) [
          | inl (k, e) ↦ after_fault (Faults fault.Arith) a t k e
          | inr (y, ans, e) ↦ absurd (none_after_arith a y ans)
        ]
    by_got (Wants w) f fs a t is h all =
        elim (entry_is (stand_at code w f fs) a t h) [
          | inl (k, e) ↦ after_fault (last_want w fs) a t k e
          | inr (y, ans, e) ↦
              subst (λ u. AreInPlace u × (HasFrames u ⊎ IsLast a)) (one_of (gone code w y f fs) t e) (gone_in_place w y f fs is all, gone_has_frames w a y y f fs ans)
        ]

    pub entry_in_place : (fs : Thread) (a : EventAct) (t : Thread) → after_entry (stand code fs) a ≡ Some t → AreInPlace fs → AreInPlace t × (HasFrames t ⊎ IsLast a)
    entry_in_place [] a t h all =
        elim (entry_is (stand code []) a t h) [
          | inl (k, e) ↦ after_fault Ended a t k e
          | inr (y, ans, e) ↦ absurd (none_at_the_end a y ans)
        ]
    entry_in_place (f ∷ fs) a t h all = by_got (begun code f) f fs a t refl h all

  -- a thread that a create makes
  module _ (on_create : (f : Frame) (g : FunId) (x : Value) → G f → begun code f ≡ Wants (Creates g x) → G (frame_of code g (x ∷ []))) where
    made_by_got : (g : Got Done) (f : Frame) (fs : Thread) (n : FunId) (x : Value) → G f → begun code f ≡ g → last_want (wanted g) fs ≡ Creates n x → G (frame_of code n (x ∷ []))
    made_by_got (Is d rest) f fs n x h is e = cc
    made_by_got No_result f fs n x h is e = cc
    made_by_got (Wants (Creates m y)) f fs n x h is e = on_create f n x h (is ∙ ap Wants e)
    made_by_got (Wants (Returns y)) f [] n x h is e = cc
    made_by_got (Wants (Returns y)) f (c ∷ fs) n x h is e = cc
    made_by_got (Wants _) f fs n x h is e = cc

    pub made_in_place : (fs : Thread) (n : FunId) (x : Value) → AreInPlace fs → (stand code fs).want ≡ Creates n x → AreInPlace (frame_of code n (x ∷ []) ∷ [])
    made_in_place [] n x all e = cc
    made_in_place (f ∷ fs) n x all e = (made_by_got (begun code f) f fs n x all.0 refl e, tt)
