use Rattle.ca_cmd.proofs.Loading.{opened}
use Rattle.ca_cmd.proofs.reading.open_source.Goals as goal

pub returns-in-Ok-clause-opened : goal.returns-in-Ok-clause-opened
returns-in-Ok-clause-opened g c = opened _ _ c.args.name.now c.in-Ok.bytes.items c.deref.result.now c.deref.ensures.value c.in-Ok.ensures.asked_ok (c.in-Ok.ensures.whole, c.in-Ok.ensures.short) c.read_source.result c.read_source.ensures
