use Rattle.ca_plan.proofs.Naming.{named_among}
use Rattle.ca_plan.proofs.named.is_named.Goals as goal

pub returns-in-Some : goal.returns-in-Some
returns-in-Some c = named_among c.args.only.now c.in-Some.numbers c.as_slice.result.now c.args.n c.is_among.result c.in-Some.is c.as_slice.ensures c.is_among.ensures
