-- The frames of a thread, as its entries tell them.
use Rattle.std.specs.Prelude.{◌≡◌, ℕ, zero, suc, ◌+◌, ◌-◌, nat_lt, cond, List, [], ◌∷◌, length, sum_by, Option, Some, None, unwrap_or, slice_get}
use Rattle.ca_model.specs.declared.values.Event.{Event}
use Rattle.ca_model.specs.declared.values.EventAct.{EventAct}
use Rattle.ca_model.specs.declared.values.EventAct.TheVariants as act
use Rattle.ca_model.specs.Private.{Thread}
use Rattle.ca_model.specs.Machine.{Rules, State, Run, own_of}
use Rattle.ca_model.specs.Codes.{Typed}
use Rattle.ca_model.specs.Opening.{opening}

-- the number of frames now, and at the last save
pub record Depth : Type 0 where
  pub now : ℕ
  pub saved : Option ℕ

-- a thread starts with one frame
abbrev pub first_depth : Depth
first_depth = record { now = 1; saved = None }

-- a call begins a frame, and a return ends one, but for the last; a retry goes back to the last save, if there is one; of a thread that has ended or failed no frame is left
abbrev pub deeper : Depth → EventAct → Depth
deeper d (act.Call f) = record d { now = d.now + 1 }
deeper d (act.Return x) = record d { now = cond (nat_lt 1 d.now) (d.now - 1) d.now }
deeper d act.End = record d { now = 0 }
deeper d (act.Fault k) = record d { now = 0 }
deeper d act.Save = record d { saved = Some d.now }
deeper d (act.Retry site gives) = record d { now = unwrap_or d.saved d.now }
deeper d _ = d

abbrev pub depth_after : Depth → List EventAct → Depth
depth_after d [] = d
depth_after d (a ∷ more) = depth_after (deeper d a) more

abbrev pub depth_of : ℕ → List Event → Depth
depth_of t trace = depth_after first_depth (own_of t trace)

-- those of the threads below n, together
abbrev pub frames_below : List Event → ℕ → ℕ
frames_below trace zero = 0
frames_below trace (suc n) = frames_below trace n + (depth_of n trace).now

-- so in a run from the opening each thread has as many frames as its entries tell, and all of them have so many together
abbrev pub FramesAreTold : {T : Type 0} → Rules T → (T → Thread) → Typed → Type 0
FramesAreTold {T} r frames p =
    (es : List Event) (new : State T) → Run r (opening r p) es new
    → ((t : ℕ) (x : T) → slice_get new.threads t ≡ Some x → length (frames x) ≡ (depth_of t es).now) × (sum_by (λ x. length (frames x)) new.threads ≡ frames_below es new.shared.threads)
