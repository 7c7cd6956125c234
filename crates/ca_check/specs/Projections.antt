-- How a list is answered by its projection.
use Rattle.std.specs.Prelude.{◌≡◌, ◌⊎◌, List, Result, Ok, Err}
use Rattle.ca_model.specs.declared.plan.Plan.{Plan}
use Rattle.ca_model.specs.declared.values.Event.{Event}
use Rattle.ca_model.specs.declared.values.Ending.{Ending}
use Rattle.ca_model.specs.Codes.{Typed}
use Rattle.ca_model.specs.Hardened.{Hardened}
use Rattle.ca_model.specs.Private.{Thread}
use Rattle.ca_model.specs.Shared.{IsSame}
use Rattle.ca_model.specs.Machine.{State, Run}
use Rattle.ca_model.specs.Opening.{opening, EndsAs}
use Rattle.ca_model.specs.SourceRuns.{rules_of, IsOver}
use Rattle.ca_model.specs.Projection.{projection}
use Rattle.ca_check.specs.Verdicts.{rules, LeadTo, IsFirstNoStep}
use Rattle.ca_check.specs.declared.checking.CheckNo.{CheckNo}
use Rattle.ca_check.specs.declared.checking.CheckNo.TheVariants as no

-- the entries are a run of the source under the plan
abbrev pub IsRun : Typed → Plan → List Event → Type 0
IsRun p plan events = (s : State Hardened) × LeadTo p plan events s

-- the projection of a run, or the refusal of the checker; want of memory may come at any list
abbrev pub IsProjection : Typed → Plan → List Event → Result (List Event) CheckNo → Type 0
IsProjection p plan events (Ok list) = IsRun p plan events × (list ≡ projection events)
IsProjection p plan events (Err (no.NotARun index)) = IsFirstNoStep p plan events index
IsProjection p plan events (Err no.NoMemory) = Unit {0}

-- two answers are one, but for want of memory
abbrev pub HasOneProjection : Typed → Plan → List Event → Type 0
HasOneProjection p plan events = (a b : Result (List Event) CheckNo) → IsProjection p plan events a → IsProjection p plan events b → (a ≡ b) ⊎ ((a ≡ Err no.NoMemory) ⊎ (b ≡ Err no.NoMemory))

-- a list is a run of the source, with the shared state of this run under a plan, and with its ending where that is over
pub record IsErased (p : Typed) (plan : Plan) (events list : List Event) : Type 0 where
  pub last : State Hardened
  pub run : LeadTo p plan events last
  pub after : State Thread
  pub source : Run (rules_of p) (opening (rules_of p) p) list after
  pub same : IsSame after.shared last.shared
  pub ends : (end : Ending) → EndsAs (rules p plan) last end → IsOver end → EndsAs (rules_of p) after end
