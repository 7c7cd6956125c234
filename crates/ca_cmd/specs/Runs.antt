-- How the words of a command have a source run, and what a run of it is.
use Rattle.std.specs.Prelude.{◌≡◌, ℕ, List, [], Option, Some, None, unwrap_or}
use Rattle.ca_model.specs.declared.plan.Plan.{Plan}
use Rattle.ca_model.specs.declared.values.Event.{Event}
use Rattle.ca_model.specs.declared.values.Ending.{Ending}
use Rattle.ca_model.specs.Codes.{Typed, code_of}
use Rattle.ca_model.specs.Hardened.{Hardened, hardened}
use Rattle.ca_model.specs.Machine.{State, Run}
use Rattle.ca_model.specs.Opening.{opening}
use Rattle.ca_model.specs.Runner as runner
use Rattle.ca_model.specs.Schedules.{Schedule, by_list, by_seed}
use Rattle.ca_machine.specs.Machines.{Reaches}
use Rattle.ca_commands.specs.Words.{RunnerOptions}
use Rattle.ca_cmd.specs.declared.run.SourceRun.{SourceRun}

-- a list is followed, or the words of a seed; without either the threads move in turn
abbrev pub scheduled : Option (List ℕ) → Option ℕ → Schedule
scheduled (Some ts) seed = by_list ts
scheduled None (Some n) = by_seed n
scheduled None None = by_list []

abbrev pub schedule_of : RunnerOptions → Schedule
schedule_of o = scheduled o.schedule o.seed

-- the most entries of a run
abbrev pub most_events : RunnerOptions → ℕ
most_events o = unwrap_or o.events 200000

-- after so many entries of others a thread has waited out at a held lock
abbrev pub patience_of : RunnerOptions → ℕ
patience_of o = unwrap_or o.patience 10

-- the runner's one list for the words, with its ending, and the state that it reaches from the opening
pub record IsRun (p : Typed) (o : RunnerOptions) (plan : Plan) (events : List Event) (last : State Hardened) (end : Ending) : Type 0 where
  pub run : runner.IsRunOf p plan (schedule_of o) (most_events o) (patience_of o) events end
  pub reached : Run (hardened (code_of p plan)) (opening (hardened (code_of p plan)) p) events last

-- a machine that has made this run
pub record IsRunAs (p : Typed) (plan : Plan) (o : RunnerOptions) (r : SourceRun) : Type 0 where
  pub source : r.machine.source ≡ p
  pub hardened : r.machine.plan ≡ plan
  pub last : State Hardened
  pub reaches : Reaches r.machine last
  pub run : IsRun p o plan r.machine.trace last r.ending
