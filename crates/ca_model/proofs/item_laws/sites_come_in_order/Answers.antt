use Rattle.ca_model.proofs.AscendingItems.{act_ascends}
use Rattle.ca_model.proofs.item_laws.sites_come_in_order.Goals as goal

pub returns : goal.returns
returns c = λ i l s. (act_ascends c.args.a.now i l s).ascending
