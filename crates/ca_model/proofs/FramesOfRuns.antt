-- The frames of a run are in progress.
use Rattle.std.proofs.Common.{◌≡◌, ℕ, List, [], ◌∷◌, Some}
use Rattle.std.specs.Prelude.{All, slice_get}
use Rattle.std.proofs.lemmas.List.Elements.{All-nil, All-cons}
use Rattle.ca_model.specs.declared.plan.Plan.{Plan}
use Rattle.ca_model.specs.declared.values.Event.{Event}
use Rattle.ca_model.specs.Arith.{null}
use Rattle.ca_model.specs.Frames.{Code}
use Rattle.ca_model.specs.Begun.{InProgress, starts, goes_on}
use Rattle.ca_model.specs.Private.{Thread}
use Rattle.ca_model.specs.Machine.{State, Run}
use Rattle.ca_model.specs.Hardened.{Hardened, hardened}
use Rattle.ca_model.specs.Codes.{Typed, code_of}
use Rattle.ca_model.specs.Opening.{opening}
use Rattle.ca_model.proofs.Creates.{hardened_creates}
use Rattle.ca_model.proofs.FramesInPlace.{AreInPlace, AreCallers, HasFrames}
use Rattle.ca_model.proofs.HardenedInPlace.{IsInPlace, advance_in_place, started_in_place}
use Rattle.ca_model.proofs.KeptByRuns.{IsKept, kept_by_run, opening_kept}

module _ (p : Typed) (plan : Plan) where
  abbrev code : Code
  code = code_of p plan

  callers_in_progress : (fs : Thread) → AreCallers code (InProgress code) fs → All (InProgress code) fs
  callers_in_progress [] h = All-nil (InProgress code)
  callers_in_progress (f ∷ fs) h = All-cons (InProgress code) f fs h.0.0 (callers_in_progress fs h.1)

  all_in_progress : (fs : Thread) → AreInPlace code (InProgress code) fs → All (InProgress code) fs
  all_in_progress [] h = All-nil (InProgress code)
  all_in_progress (f ∷ fs) h = All-cons (InProgress code) f fs h.0 (callers_in_progress fs h.1)

  -- of each thread and of its copy; all but the innermost wait for a call
  pub kept_in_progress : (es : List Event) (s : State Hardened) → Run (hardened code) (opening (hardened code) p) es s
      → IsKept (hardened code) (IsInPlace code (InProgress code)) (λ h. HasFrames h.frames) p.mutexes s
  kept_in_progress es s run =
      kept_by_run (hardened code) (IsInPlace code (InProgress code)) (λ h. HasFrames h.frames) (hardened_creates code)
      (λ h a x all e. advance_in_place code (InProgress code) (λ f w x g is more. goes_on g is more x) (λ f g xs h is. starts g xs) h a x all e)
      (λ h k z all e. started_in_place code (InProgress code) (λ f g x h is. starts g (x ∷ [])) h k z all e)
      p.mutexes es (opening (hardened code) p) s
      (opening_kept (hardened code) (IsInPlace code (InProgress code)) (λ h. HasFrames h.frames) p ((starts p.main (null ∷ []), tt), tt) tt)
      run

  pub frames_in_progress : (es : List Event) (s : State Hardened) → Run (hardened code) (opening (hardened code) p) es s → (t : ℕ) (h : Hardened) → slice_get s.threads t ≡ Some h → All (InProgress code) h.frames
  frames_in_progress es s run t h at = all_in_progress h.frames ((kept_in_progress es s run).fine t h at).0
