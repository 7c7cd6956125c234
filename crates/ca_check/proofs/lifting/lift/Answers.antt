use Rattle.ca_check.proofs.Answering.{only_list, only_no_run, only_fault}
use Rattle.ca_check.proofs.lifting.lift.Goals as goal

pub returns-clause-ok : goal.returns-clause-ok
returns-clause-ok c = λ list is. only_list c.args.checked.now.typed c.args.plan.now c.args.events.now list c.lifted.result c.lifted.ensures is

pub returns-clause-not_a_run : goal.returns-clause-not_a_run
returns-clause-not_a_run c = λ index is. only_no_run c.args.checked.now.typed c.args.plan.now c.args.events.now index c.lifted.result c.lifted.ensures is

pub returns-clause-fault : goal.returns-clause-fault
returns-clause-fault c = λ index is. only_fault c.args.checked.now.typed c.args.plan.now c.args.events.now index c.lifted.result c.lifted.ensures is
