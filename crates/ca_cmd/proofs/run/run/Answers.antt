use Rattle.std.proofs.Common.{◌≤◌, ◌<◌, ◌+◌, ◌^◌, length, arith}
use Rattle.ca_model.specs.declared.plan.Plan.{Plan}
use Rattle.ca_model.specs.Codes.{Typed}
use Rattle.ca_commands.specs.Options.{runner_options}
use Rattle.ca_commands.specs.Words.{RunnerOptions}
use Rattle.ca_cmd.specs.Runs.{schedule_of, most_events, patience_of}
use Rattle.ca_cmd.proofs.Running.{opened, Went, went_so, is_run, ends}
use Rattle.ca_cmd.proofs.run.run.Goals as goal

pub returns-clause-run : goal.returns-clause-run
returns-clause-run c = is_run c.args.checked.now.typed c.args.plan.now (runner_options c.args.words.now) c.run_alone.new.self c.in_ok-ending.ending
    (went_so _ _ _ _ _ _ _ _ _ _ c.in_ok-machine.ensures c.in_ok-schedule.ensures c.unwrap_or-events.ensures c.unwrap_or-patience.ensures c.in_ok-ending.ensures.ran)

pub returns-clause-ended : goal.returns-clause-ended
returns-clause-ended c =
    let p : Typed = c.args.checked.now.typed in
    let plan : Plan = c.args.plan.now in
    let o : RunnerOptions = runner_options c.args.words.now in
    let went : Went (most_events o) (patience_of o) (schedule_of o) (opened p plan) c.run_alone.new.self c.in_ok-ending.ending =
    went_so _ _ _ _ _ _ _ _ _ _ c.in_ok-machine.ensures c.in_ok-schedule.ensures c.unwrap_or-events.ensures c.unwrap_or-patience.ensures c.in_ok-ending.ensures.ran in
    let globals : length p.globals ≤ 1024 = (c.typed_programs_are_well_formed.ensures.bounded c.args.checked.now.program p c.program-program.ensures.checked.program c.program-program.ensures.checked.typing).globals in
    let asked : most_events o ≤ 2000000 = c.requires.few in
    let few : most_events o + length p.globals < 2 ^ 32 = omega (arith, globals, asked) in
    ends p plan o c.run_alone.new.self c.in_ok-ending.ending went few
