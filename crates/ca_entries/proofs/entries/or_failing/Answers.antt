use Rattle.std.proofs.Common.{sym, ap, ◌∙◌}
use Rattle.ca_model.specs.declared.values.FaultKind.TheVariants as fault
use Rattle.ca_model.specs.ComingEntries as coming
use Rattle.ca_entries.specs.Shares.{given_back, or_that}
use Rattle.ca_entries.proofs.entries.or_failing.Goals as goal

pub returns-in_ok-act-in-None : goal.returns-in_ok-act-in-None
returns-in_ok-act-in-None c = λ g shares.
    c.in_ok-act-in-None.ensures g shares ∙ sym (ap (λ o. or_that o (coming.failing c.args.retry fault.Pointer (given_back g c.args.thread c.args.taken.now))) c.in-None.is)
