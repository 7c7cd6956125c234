use Rattle.std.proofs.Common.{Some, sym, ap, ◌∙◌}
use Rattle.ca_model.specs.declared.values.EventAct.TheVariants as act
use Rattle.ca_model.specs.ComingEntries as coming
use Rattle.ca_entries.specs.Shares.{given_back}
use Rattle.ca_entries.proofs.entries.retrying.Goals as goal

pub returns : goal.returns
returns c = λ g shares.
    ap (λ gs. Some (act.Retry c.in-Some.site gs)) (c.in_ok-gives.ensures g shares) ∙ sym (ap (λ r. coming.retrying r (given_back g c.args.thread c.args.taken.now)) c.in-Some.is)
