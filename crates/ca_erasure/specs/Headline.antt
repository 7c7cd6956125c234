-- What hardening a source under a plan means for its runs.
use Rattle.std.specs.Prelude.{ℕ, List, length, ◌+◌, ◌<◌, ◌^◌}
use Rattle.ca_model.specs.declared.plan.Plan.{Plan}
use Rattle.ca_model.specs.declared.values.Event.{Event}
use Rattle.ca_model.specs.declared.values.Ending.{Ending}
use Rattle.ca_model.specs.Shared.{IsSame}
use Rattle.ca_model.specs.Private.{Thread}
use Rattle.ca_model.specs.Machine.{State, Run}
use Rattle.ca_model.specs.Hardened.{Hardened, hardened}
use Rattle.ca_model.specs.Codes.{Typed, code_of}
use Rattle.ca_model.specs.Opening.{opening, EndsAs}
use Rattle.ca_model.specs.SourceRuns.{rules_of, IsOver}
use Rattle.ca_model.specs.Projection.{projection}
use Rattle.ca_model.specs.Schedules.{Schedule}
use Rattle.ca_model.specs.Runner.{IsRunOf}
use Rattle.ca_model.specs.Activations.{RetriesAreBounded}
use Rattle.ca_erasure.specs.Erased.{ErasesAttempts}
use Rattle.ca_erasure.specs.Lifted.{LiftsRuns}

-- the list of the runner is a hardened run; without its abandoned attempts it is a source run with the same shared state, and with the runner's ending where that is no limit
abbrev pub RunnerAddsNothing : Typed → Plan → Type 0
RunnerAddsNothing p plan =
    (c : Schedule) (events patience : ℕ) (list : List Event) (end : Ending) → events + length p.globals < 2 ^ 32 → IsRunOf p plan c events patience list end
    → (s : State Hardened) × Run (hardened (code_of p plan)) (opening (hardened (code_of p plan)) p) list s
    × ((u : State Thread) × Run (rules_of p) (opening (rules_of p) p) (projection list) u × IsSame u.shared s.shared × (IsOver end → EndsAs (rules_of p) u end))

-- a hardened run without its abandoned attempts is a source run, each source run without a fault arises so, and no activation of a site retries past the limit
pub record AddsNoBehaviour (p : Typed) (plan : Plan) : Type 0 where
  pub erasure : ErasesAttempts p plan
  pub lift : LiftsRuns p plan
  pub bound : RetriesAreBounded p (code_of p plan)
  pub runner : RunnerAddsNothing p plan
