use Rattle.std.proofs.Common.{◌≡◌, length, arith}
use Rattle.ca_check.proofs.Onward.{all_made}
use Rattle.ca_check.proofs.lifting.enter_all.Goals as goal

pub returns : goal.returns
returns c =
    let all : c.entries.event-index ≡ length c.args.events.now = omega (arith, c.entries-test.false, c.entries.auto.event-index-end) in
    all_made c.args.machine.now c.entries.machine c.args.events.now c.entries.event-index c.entries.invariant.beside all c.entries.invariant.on
