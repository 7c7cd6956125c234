use Rattle.std.proofs.Common.{refl}
use Rattle.ca_check.proofs.Following.{no_step}
use Rattle.ca_check.proofs.Onward.{can_go, entered_on}
use Rattle.ca_check.proofs.lifting.enter.Goals as goal

pub unreachable-requires : goal.unreachable-requires
unreachable-requires c =
    let reached = c.shared-reached.ensures.runs in
    let way = c.requires in
    let next = c.in-Ok.ensures.next way.0 way.1 c.args.event.now refl way.2 in
    no_step (Unit {0}) _ c.in-Err-NotAStep.field-0 c.in-Err-NotAStep.field-0-is (c.in-Err-NotAStep.ensures.exact reached.0 reached.1)
    (can_go c.save.new.machine way.0 way.1 c.args.event.now reached.0 next reached.1)

pub returns-in-Ok-follow-clause-on : goal.returns-in-Ok-follow-clause-on
returns-in-Ok-follow-clause-on c = λ events left way. entered_on c.save.new.machine c.follow.new.self c.args.event.now c.in-Ok-follow.ensures.made events left (c.in-Ok.ensures.next events left c.args.event.now refl way)
