use Rattle.std.proofs.Common.{sym, ap, ◌∙◌}
use Rattle.ca_model.specs.declared.values.EventAct.TheVariants as act
use Rattle.ca_model.specs.ComingEntries as coming
use Rattle.ca_entries.specs.Shares.{given_back}
use Rattle.ca_entries.proofs.entries.failing.Goals as goal

pub returns : goal.returns
returns c = λ g shares.
    ap (act.Retry c.in-Some.site) (c.in_ok-gives.ensures g shares) ∙ sym (ap (λ r. coming.failing r c.args.kind (given_back g c.args.thread c.args.taken.now)) c.in-Some.is)
