-- The runs of a source from its opening, and their endings.
use Rattle.std.specs.Prelude.{List, []}
use Rattle.ca_model.specs.declared.plan.Plan.{Plan}
use Rattle.ca_model.specs.declared.values.Event.{Event}
use Rattle.ca_model.specs.declared.values.Ending.{Ending}
use Rattle.ca_model.specs.declared.values.Ending.TheVariants as ending
use Rattle.ca_model.specs.Private.{Thread}
use Rattle.ca_model.specs.Machine.{Rules, State, Run}
use Rattle.ca_model.specs.Source.{source}
use Rattle.ca_model.specs.Codes.{Typed, code_of}
use Rattle.ca_model.specs.Opening.{opening, EndsAs}

-- the plan without a save
abbrev pub no_plan : Plan
no_plan = record { limit = 0; saves_after = []; saves_at_entry = []; sites = []; acquires = [] }

-- the threads of a source, which neither save nor retry
abbrev pub rules_of : Typed → Rules Thread
rules_of p = source (code_of p no_plan)

-- the entries lead from the opening to this state, and so the run ends
pub record IsSourceRun (p : Typed) (events : List Event) (last : State Thread) (end : Ending) : Type 0 where
  pub run : Run (rules_of p) (opening (rules_of p) p) events last
  pub ends : EndsAs (rules_of p) last end

-- the run can't go on
abbrev pub IsOver : Ending → Type 0
IsOver ending.Finished = Unit {0}
IsOver (ending.Fault k) = Unit {0}
IsOver ending.Deadlock = Unit {0}
IsOver _ = ⊥
