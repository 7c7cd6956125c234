use Rattle.ca_cmd.proofs.Making.{projected_so}
use Rattle.ca_cmd.proofs.traced.projected.Goals as goal

pub returns-in-Ok-trace_text : goal.returns-in-Ok-trace_text
returns-in-Ok-trace_text c =
    projected_so c.args.given.now.checked.typed c.args.given.now.plan c.args.given.now.events c.as_slice.result.now c.in-Ok.projection c.as_slice-2.result.now c.in-Ok-trace_text.text c.as_slice.ensures c.in-Ok.ensures.projection c.as_slice-2.ensures c.in-Ok-trace_text.ensures
