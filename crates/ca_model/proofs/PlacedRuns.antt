-- In a run of a well-formed source each frame is placed, and a thread that hasn't ended makes an entry or waits.
use Rattle.std.proofs.Common.{◌≡◌, ℕ, List, [], ◌∷◌, Some, false, refl, subst}
use Rattle.std.specs.Prelude.{◌⊎◌, slice_get}
use Rattle.std.specs.FinSet as set
use Rattle.ca_tree.specs.declared.numbers.FunId.{FunId}
use Rattle.ca_model.specs.declared.plan.Plan.{Plan}
use Rattle.ca_model.specs.declared.values.Value.{Value}
use Rattle.ca_model.specs.declared.values.Event.{Event}
use Rattle.ca_model.specs.Arith.{null}
use Rattle.ca_model.specs.Asks.{Want, Creates, Calls, Returns, Wants}
use Rattle.ca_model.specs.Frames.{Code, Frame, begun, wanted, frame_of}
use Rattle.ca_model.specs.Private.{Thread, stand, last_want}
use Rattle.ca_model.specs.Shared.{Open}
use Rattle.ca_model.specs.Machine.{State, Run}
use Rattle.ca_model.specs.Source.{plain}
use Rattle.ca_model.specs.Hardened.{Hardened, hardened}
use Rattle.ca_model.specs.Codes.{Typed, code_of}
use Rattle.ca_model.specs.Opening.{opening}
use Rattle.ca_model.specs.SourceRuns.{no_plan, rules_of}
use Rattle.ca_model.specs.WellFormed.{IsWellFormed}
use Rattle.ca_model.specs.Waits.{WaitsAt, HardenedWaits}
use Rattle.ca_model.proofs.Creates.{source_creates, hardened_creates}
use Rattle.ca_model.proofs.KnownWants.{IsKnown, IsPlaced, wants_known, answered_placed, frame_placed}
use Rattle.ca_model.proofs.FramesInPlace.{AreInPlace, HasFrames, entry_in_place}
use Rattle.ca_model.proofs.HardenedInPlace.{IsInPlace, advance_in_place, started_in_place}
use Rattle.ca_model.proofs.KeptByRuns.{IsKept, kept_by_run, opening_kept, kept_running}
use Rattle.ca_model.proofs.Choices.{choose}
use Rattle.ca_model.proofs.Offers.{Offer}
use Rattle.ca_model.proofs.Moves.{moves_or_waits}
use Rattle.ca_model.proofs.SourceMoves.{source_moves_or_waits, source_started}

module _ (p : Typed) (wf : IsWellFormed p) where
  last_known : (w : Want) (fs : Thread) → IsKnown p w → IsKnown p (last_want w fs)
  last_known (Returns x) [] k = tt
  last_known w fs k = k

  -- what a thread with frames wants is known
  thread_known : (code : Code) (fs : Thread) → AreInPlace code (IsPlaced p code) fs → HasFrames fs → IsKnown p (stand code fs).want
  thread_known code [] all some = absurd some
  thread_known code (f ∷ fs) all some = last_known (wanted (begun code f)) fs (wants_known p code f all.0)

  -- a call or a create begins a function that is there
  module _ (code : Code) (same : code.functions ≡ p.functions) where
    called_placed : (f : Frame) (g : FunId) (xs : List Value) → IsPlaced p code f → begun code f ≡ Wants (Calls g xs) → IsPlaced p code (frame_of code g xs)
    called_placed f g xs h is = frame_placed p code wf same g xs (subst (λ g. IsKnown p (wanted g)) is (wants_known p code f h))

    created_placed : (f : Frame) (g : FunId) (x : Value) → IsPlaced p code f → begun code f ≡ Wants (Creates g x) → IsPlaced p code (frame_of code g (x ∷ []))
    created_placed f g x h is = frame_placed p code wf same g (x ∷ []) (subst (λ g. IsKnown p (wanted g)) is (wants_known p code f h))

  -- of the hardened machine
  module _ (plan : Plan) where
    abbrev code : Code
    code = code_of p plan

    abbrev IsHardenedPlaced : Hardened → Type 0
    IsHardenedPlaced = IsInPlace code (IsPlaced p code)

    abbrev HasHardenedFrames : Hardened → Type 0
    HasHardenedFrames h = HasFrames h.frames

    pub kept_hardened : (es : List Event) (s : State Hardened) → Run (hardened code) (opening (hardened code) p) es s → IsKept (hardened code) IsHardenedPlaced HasHardenedFrames p.mutexes s
    kept_hardened es s run =
        kept_by_run (hardened code) IsHardenedPlaced HasHardenedFrames (hardened_creates code)
        (λ h a x all e. advance_in_place code (IsPlaced p code) (answered_placed p code) (called_placed code refl) h a x all e)
        (λ h k z all e. started_in_place code (IsPlaced p code) (created_placed code refl) h k z all e)
        p.mutexes es (opening (hardened code) p) s
        (opening_kept (hardened code) IsHardenedPlaced HasHardenedFrames p ((frame_placed p code wf refl p.main (null ∷ []) wf.main, tt), tt) tt)
        run

    pub hardened_offers : (es : List Event) (s : State Hardened) → Run (hardened code) (opening (hardened code) p) es s → s.shared.phase ≡ Open
        → (t : ℕ) (h : Hardened) → slice_get s.threads t ≡ Some h → set.contains s.shared.ended t ≡ false
        → Offer (hardened code) s.shared t h ⊎ HardenedWaits code s.shared h
    hardened_offers es s run is t h at on =
        let kept = kept_hardened es s run in
        let running = kept_running (hardened code) IsHardenedPlaced HasHardenedFrames p.mutexes s t h kept is at on in
        let known = thread_known code h.frames (kept.fine t h at).0 (kept.live is t h at on) in
        moves_or_waits code s.shared t h running (choose s.shared t running p kept.same (stand code h.frames).want known)

  -- of the source
  abbrev bare : Code
  bare = plain (code_of p no_plan)

  abbrev IsSourcePlaced : Thread → Type 0
  IsSourcePlaced = AreInPlace bare (IsPlaced p bare)

  pub kept_source : (es : List Event) (s : State Thread) → Run (rules_of p) (opening (rules_of p) p) es s → IsKept (rules_of p) IsSourcePlaced HasFrames p.mutexes s
  kept_source es s run =
      kept_by_run (rules_of p) IsSourcePlaced HasFrames (source_creates (code_of p no_plan))
      (λ fs a x all e. entry_in_place bare (IsPlaced p bare) (answered_placed p bare) (called_placed bare refl) fs a x e all)
      (λ fs k z all e. source_started (code_of p no_plan) (IsPlaced p bare) (created_placed bare refl) fs k z all e)
      p.mutexes es (opening (rules_of p) p) s
      (opening_kept (rules_of p) IsSourcePlaced HasFrames p (frame_placed p bare wf refl p.main (null ∷ []) wf.main, tt) tt)
      run

  pub source_offers : (es : List Event) (s : State Thread) → Run (rules_of p) (opening (rules_of p) p) es s → s.shared.phase ≡ Open
      → (t : ℕ) (x : Thread) → slice_get s.threads t ≡ Some x → set.contains s.shared.ended t ≡ false
      → Offer (rules_of p) s.shared t x ⊎ WaitsAt s.shared ((rules_of p).want x)
  source_offers es s run is t x at on =
      let kept = kept_source es s run in
      let running = kept_running (rules_of p) IsSourcePlaced HasFrames p.mutexes s t x kept is at on in
      let known = thread_known bare x (kept.fine t x at) (kept.live is t x at on) in
      source_moves_or_waits (code_of p no_plan) s.shared t x running (choose s.shared t running p kept.same (stand bare x).want known)
