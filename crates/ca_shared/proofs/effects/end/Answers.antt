use Rattle.ca_shared.proofs.Ended.{flagged_is}
use Rattle.ca_shared.proofs.effects.end.Goals as goal

pub returns : goal.returns
returns c = flagged_is c.args.threads.now.items c.args.t c.index_mut.result.now c.requires c.index_mut.ensures.value
