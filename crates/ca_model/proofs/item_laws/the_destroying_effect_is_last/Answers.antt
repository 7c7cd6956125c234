use Rattle.ca_model.proofs.LastEffects.{act_last}
use Rattle.ca_model.proofs.item_laws.the_destroying_effect_is_last.Goals as goal

pub returns : goal.returns
returns c = act_last c.args.a.now
