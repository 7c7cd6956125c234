use Rattle.ca_machine.proofs.Turning.{step_of}
use Rattle.ca_machine.proofs.machine.Machine.step.Goals as goal

pub unreachable-requires : goal.unreachable-requires
unreachable-requires c =
    let s = c.shared.ensures.runs.0 in
    let reach = c.shared.ensures.runs.1 in
    let x = c.in-Ok.ensures.step s reach in
    (rw c.in-Err-NotAStep.field-0-is at c.in-Err-NotAStep.ensures.exact) s reach (x.new, step_of c.args.self.now s c.in-Ok.event c.args.thread c.in-Ok.ensures.thread x.new x.step)
