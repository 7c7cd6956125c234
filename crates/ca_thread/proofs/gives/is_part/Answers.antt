use Rattle.ca_thread.proofs.Parts.{next_part, used_up}
use Rattle.ca_thread.proofs.gives.is_part.Goals as goal

pub of-preserved : goal.of-preserved
of-preserved c = next_part c.args.of.now c.of.left.now c.behind-left.result.now c.of.one-index _ _ c.of-test.true c.behind-left.ensures c.of.invariant

pub returns : goal.returns
returns c = used_up c.args.of.now c.of.left.now c.of.one-index c.is_used_up.result _ c.of-test.false c.is_used_up.ensures c.of.invariant
