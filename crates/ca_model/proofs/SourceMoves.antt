-- A thread of a source makes an entry where its want is answered or fails, and none where it waits.
use Rattle.std.proofs.Common.{◌≡◌, ℕ, zero, suc, [], ◌∷◌, Some, None, refl, ap, subst, inl, inr}
use Rattle.std.specs.Prelude.{◌⊎◌, slice_get, if◌then◌else◌}
use Rattle.ca_tree.specs.declared.numbers.FunId.{FunId}
use Rattle.ca_model.specs.declared.values.Value.{Value}
use Rattle.ca_model.specs.declared.values.EventAct.{EventAct}
use Rattle.ca_model.specs.declared.values.EventAct.TheVariants as act
use Rattle.ca_model.specs.Asks.{Want, Creates, Wants}
use Rattle.ca_model.specs.Frames.{Code, Frame, begun, frame_of}
use Rattle.ca_model.specs.Private.{Thread, Stand, stand, answer, going_on}
use Rattle.ca_model.specs.Shared.{Shared, IsLegal}
use Rattle.ca_model.specs.Machine.{started}
use Rattle.ca_model.specs.Source.{source, plain}
use Rattle.ca_model.specs.Waits.{WaitsAt}
use Rattle.ca_model.proofs.Law.{one_of}
use Rattle.ca_model.proofs.Offers.{Offer}
use Rattle.ca_model.proofs.FramesInPlace.{AreInPlace, HasFrames, made_in_place}
use Rattle.ca_model.proofs.Choices.{IsRunning, Choice, Answers, Fails_by, Must_wait, legal}
use Rattle.ca_model.proofs.Moves.{no_fault_answers}

module _ (code : Code) (s : Shared) (t : ℕ) (x : Thread) where
  abbrev st : Stand
  st = stand (plain code) x

  pub source_answers : (a : EventAct) (y : Value) → answer st.want a ≡ Some y → IsLegal s t a → Offer (source code) s t x
  source_answers (act.Fault k) y e l = absurd (no_fault_answers st.want k y e)
  source_answers a y e l = record { entry = a; next = st.go y; own = ap (going_on st) e; legal = l; due = tt }

  pub source_moves_or_waits : IsRunning s t → Choice s t st.want → Offer (source code) s t x ⊎ WaitsAt s st.want
  source_moves_or_waits running (Answers a y e l) = inl (source_answers a y e l)
  source_moves_or_waits running (Fails_by k may due) =
      inl (record { entry = act.Fault k; next = []; own = ap (λ b. if b then Some [] else None) may; legal = legal s t running (act.Fault k) tt; due = due })
  source_moves_or_waits running (Must_wait w) = inr w

module _ (code : Code) (G : Frame → Type 0)
    (on_create : (f : Frame) (g : FunId) (x : Value) → G f → begun (plain code) f ≡ Wants (Creates g x) → G (frame_of (plain code) g (x ∷ []))) where
  started_by : (w : Want) (k : ℕ) (z : Thread) → slice_get (started (source code) w) k ≡ Some z → (n : FunId) × (x : Value) × (w ≡ Creates n x) × (frame_of (plain code) n (x ∷ []) ∷ [] ≡ z)
  started_by (Creates n x) zero z e = (n, x, refl, one_of (frame_of (plain code) n (x ∷ []) ∷ []) z e)
  started_by (Creates n x) (suc k) z e = cc
  started_by _ k z e = cc

  pub source_started : (x : Thread) (k : ℕ) (z : Thread) → AreInPlace (plain code) G x → slice_get (started (source code) ((source code).want x)) k ≡ Some z → AreInPlace (plain code) G z × HasFrames z
  source_started x k z all e =
      let parts = started_by (stand (plain code) x).want k z e in
      subst (λ y. AreInPlace (plain code) G y × HasFrames y) parts.3 (made_in_place (plain code) G on_create x parts.0 parts.1 all parts.2, tt)
