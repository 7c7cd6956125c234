use Rattle.std.proofs.Common.{length, refl}
use Rattle.std.proofs.lemmas.Option.{slice_get_read}
use Rattle.ca_check.proofs.Following.{refused_by, refused_so, no_step}
use Rattle.ca_check.proofs.checking.follow_all.Goals as goal

pub returns-in-Err-NotAStep-clause-refused : goal.returns-in-Err-NotAStep-clause-refused
returns-in-Err-NotAStep-clause-refused c =
    let reached = c.shared-reached.ensures.runs in
    refused_so c.args.machine.now.source c.args.machine.now.plan c.args.events.now c.entries.index c.not_a_run.result c.not_a_run.ensures
    (refused_by c.args.machine.now.source c.args.machine.now.plan c.args.events.now c.entries.machine c.entries.index c.index-events-index.result reached.0 c.entries.invariant
    (slice_get_read c.args.events.now (length c.args.events.now) c.entries.index c.index-events-index.result refl c.entries-test.true c.index-events-index.is)
    reached.1 (no_step (Unit {0}) _ c.in-Err-NotAStep.field-0 c.in-Err-NotAStep.field-0-is (c.in-Err-NotAStep.ensures.exact reached.0 reached.1)))
