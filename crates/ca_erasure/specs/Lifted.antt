-- Lift: a source run without a fault is the projection of a hardened run without retries.
use Rattle.std.specs.Prelude.{◌≡◌, ℕ, ◌+◌, length, Some, slice_get, Bool, true, false, List, [], ◌∷◌}
use Rattle.ca_model.specs.declared.plan.Plan.{Plan}
use Rattle.ca_model.specs.declared.values.Event.{Event}
use Rattle.ca_model.specs.declared.values.EventAct.{EventAct}
use Rattle.ca_model.specs.declared.values.EventAct.TheVariants as act
use Rattle.ca_model.specs.Private.{Thread}
use Rattle.ca_model.specs.Machine.{State, Run}
use Rattle.ca_model.specs.Hardened.{Hardened, hardened}
use Rattle.ca_model.specs.Codes.{Typed, code_of}
use Rattle.ca_model.specs.Opening.{opening}
use Rattle.ca_model.specs.SourceRuns.{rules_of}
use Rattle.ca_model.specs.Projection.{projection}

abbrev pub is_fault : EventAct → Bool
is_fault (act.Fault k) = true
is_fault _ = false

abbrev pub is_retry : EventAct → Bool
is_retry (act.Retry site gives) = true
is_retry _ = false

abbrev pub is_save : EventAct → Bool
is_save act.Save = true
is_save _ = false

-- a list without a fault entry
abbrev pub IsFailureFree : List Event → Type 0
IsFailureFree [] = Unit {0}
IsFailureFree (e ∷ es) = (is_fault e.act ≡ false) × IsFailureFree es

abbrev pub HasNoRetry : List Event → Type 0
HasNoRetry [] = Unit {0}
HasNoRetry (e ∷ es) = (is_retry e.act ≡ false) × HasNoRetry es

-- an entry is followed by one of its own thread
abbrev pub IsFollowed : Event → List Event → Type 0
IsFollowed e [] = ⊥
IsFollowed e (f ∷ fs) = f.thread ≡ e.thread

-- each save stands directly before an entry of its own thread
abbrev pub SavesStandBefore : List Event → Type 0
SavesStandBefore [] = Unit {0}
SavesStandBefore (e ∷ es) = (is_save e.act ≡ true → IsFollowed e es) × SavesStandBefore es

-- hs is es with each save put directly before its thread's next entry. Where a hardened thread stands at a save nothing but the save is possible, so the plan alone says where they are
pub record IsLifted (p : Typed) (plan : Plan) (es hs : List Event) : Type 0 where
  pub last : State Hardened
  pub run : Run (hardened (code_of p plan)) (opening (hardened (code_of p plan)) p) hs last
  pub no_retry : HasNoRetry hs
  pub before : SavesStandBefore hs
  pub projected : projection hs ≡ es

-- each source run without a fault arises from a hardened run without retries, which ends in the same shared state
abbrev pub LiftsRuns : Typed → Plan → Type 0
LiftsRuns p plan =
    (es : List Event) (u : State Thread) → Run (rules_of p) (opening (rules_of p) p) es u → IsFailureFree es → (hs : List Event) × (l : IsLifted p plan es hs) × (l.last.shared ≡ u.shared)

-- and from one list alone
abbrev pub LiftsOnce : Typed → Plan → Type 0
LiftsOnce p plan = (es hs ds : List Event) → IsLifted p plan es hs → IsLifted p plan es ds → hs ≡ ds

-- a run of the source has a fault at its end alone
abbrev pub FailsLast : Typed → Type 0
FailsLast p =
    (es : List Event) (u : State Thread) → Run (rules_of p) (opening (rules_of p) p) es u → (k : ℕ) (e : Event) → slice_get es k ≡ Some e → is_fault e.act ≡ true → k + 1 ≡ length es
