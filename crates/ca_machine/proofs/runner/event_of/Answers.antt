use Rattle.ca_machine.proofs.Groups.{enabled_entry}
use Rattle.ca_machine.proofs.runner.event_of.Goals as goal

pub unreachable-requires : goal.unreachable-requires
unreachable-requires c =
    let s = c.shared-shared.ensures.runs.0 in
    let run = c.shared-shared.ensures.runs.1 in
    let x = c.requires s run in
    let entry = enabled_entry x.0 x.1 c.args.machine.now s c.args.thread x.2 in
    (rw c.in-Ok-None.field-0-is at c.in-Ok-None.ensures) x.0 x.1 s run entry.0 entry.1 entry.2

pub returns-in-Ok-Some-clause-thread : goal.returns-in-Ok-Some-clause-thread
returns-in-Ok-Some-clause-thread c = ((rw c.in-Ok-Some.field-0-is at c.in-Ok-Some.ensures) 0 0 c.shared-shared.ensures.runs.0 c.shared-shared.ensures.runs.1).0

pub returns-in-Ok-Some-clause-comes : goal.returns-in-Ok-Some-clause-comes
returns-in-Ok-Some-clause-comes c = λ events patience s run. ((rw c.in-Ok-Some.field-0-is at c.in-Ok-Some.ensures) events patience s run).1
