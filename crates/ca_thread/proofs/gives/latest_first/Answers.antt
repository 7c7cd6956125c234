use Rattle.ca_thread.proofs.Latest.{latest_is}
use Rattle.ca_thread.proofs.gives.latest_first.Goals as goal

pub returns : goal.returns
returns c = latest_is c.args.taken.now c.taken.list.items c.taken.left c.taken-test.false c.taken.invariant.same
