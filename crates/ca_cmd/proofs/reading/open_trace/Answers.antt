use Rattle.ca_cmd.proofs.Loading.{traced}
use Rattle.ca_cmd.proofs.reading.open_trace.Goals as goal

pub returns-in-Ok-clause-opened : goal.returns-in-Ok-clause-opened
returns-in-Ok-clause-opened g c = traced _ _ c.args.name.now c.in-Ok.bytes.items c.deref.result.now c.deref.ensures.value c.in-Ok.ensures.asked_ok (c.in-Ok.ensures.whole, c.in-Ok.ensures.short) c.read_entries.result c.read_entries.ensures
