use Rattle.std.proofs.Common.{ap, ◌∙◌}
use Rattle.ca_machine.specs.Machines.{Traced}
use Rattle.ca_check.proofs.Following.{accepted_by}
use Rattle.ca_check.proofs.checking.verdict.Goals as goal

pub returns-in-Ok-follow_all : goal.returns-in-Ok-follow_all
returns-in-Ok-follow_all c =
    let reached = c.shared-reached.ensures.runs in
    accepted_by c.args.checked.now.typed c.args.plan.now c.args.events.now c.follow_all.new.machine reached.0 c.ending.result
    (c.in-Ok-follow_all.ensures.all ∙ ap (λ (m : Traced). record m { trace = c.args.events.now }) c.in-Ok.ensures)
    reached.1 (c.ending.ensures reached.0 reached.1)
