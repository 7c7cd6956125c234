use Rattle.ca_check.proofs.Passing.{only_ending, only_index}
use Rattle.ca_check.proofs.checking.check.Goals as goal

pub returns-clause-ok : goal.returns-clause-ok
returns-clause-ok c = λ end is. only_ending c.args.checked.now.typed c.args.plan.now c.args.events.now c.verdict.result end c.verdict.ensures is

pub returns-clause-not_a_run : goal.returns-clause-not_a_run
returns-clause-not_a_run c = λ index is. only_index c.args.checked.now.typed c.args.plan.now c.args.events.now c.verdict.result index c.verdict.ensures is
