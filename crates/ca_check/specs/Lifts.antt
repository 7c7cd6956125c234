-- How a list is answered by its lifted list.
use Rattle.std.specs.Prelude.{◌≡◌, ◌⊎◌, ℕ, true, List, Some, slice_get, Result, Ok, Err}
use Rattle.ca_model.specs.declared.plan.Plan.{Plan}
use Rattle.ca_model.specs.declared.values.Event.{Event}
use Rattle.ca_model.specs.Codes.{Typed}
use Rattle.ca_model.specs.Private.{Thread}
use Rattle.ca_model.specs.Machine.{State, Run}
use Rattle.ca_model.specs.Opening.{opening}
use Rattle.ca_model.specs.SourceRuns.{no_plan, rules_of}
use Rattle.ca_erasure.specs.Lifted.{is_fault, IsFailureFree, IsLifted}
use Rattle.ca_check.specs.Verdicts.{IsFirstNoStep}
use Rattle.ca_check.specs.declared.lifting.LiftNo.{LiftNo}
use Rattle.ca_check.specs.declared.lifting.LiftNo.TheVariants as no

-- the entries are a run of the source, which leads to this state
abbrev pub SourceLeadsTo : Typed → List Event → State Thread → Type 0
SourceLeadsTo p events u = Run (rules_of p) (opening (rules_of p) p) events u

-- the lifted list, under a plan, of a run of the source without a fault; it leads to the same shared state
pub record IsLiftOf (p : Typed) (plan : Plan) (events list : List Event) : Type 0 where
  pub last : State Thread
  pub run : SourceLeadsTo p events last
  pub fine : IsFailureFree events
  pub lifted : IsLifted p plan events list
  pub same : lifted.last.shared ≡ last.shared

-- a fault entry at this place
pub record IsFaultEntry (events : List Event) (index : ℕ) : Type 0 where
  pub entry : Event
  pub stands : slice_get events index ≡ Some entry
  pub fault : is_fault entry.act ≡ true

-- a run of the source with a fault entry at this place
pub record IsFaultAt (p : Typed) (events : List Event) (index : ℕ) : Type 0 where
  pub last : State Thread
  pub run : SourceLeadsTo p events last
  pub there : IsFaultEntry events index

-- the lifted list, the refusal of the checker without a plan, or a fault entry of a run of the source; want of memory may come at any list
abbrev pub IsLift : Typed → Plan → List Event → Result (List Event) LiftNo → Type 0
IsLift p plan events (Ok list) = IsLiftOf p plan events list
IsLift p plan events (Err (no.NotARun index)) = IsFirstNoStep p no_plan events index
IsLift p plan events (Err (no.Fault index)) = IsFaultAt p events index
IsLift p plan events (Err no.NoMemory) = Unit {0}

-- two answers are one, but for want of memory
abbrev pub HasOneLift : Typed → Plan → List Event → Type 0
HasOneLift p plan events = (a b : Result (List Event) LiftNo) → IsLift p plan events a → IsLift p plan events b → (a ≡ b) ⊎ ((a ≡ Err no.NoMemory) ⊎ (b ≡ Err no.NoMemory))
