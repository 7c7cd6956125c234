use Rattle.ca_flow.specs.Lowerings.{rules_of}
use Rattle.ca_shared.specs.Histories.{state}
use Rattle.ca_machine.proofs.Told.{entry_so}
use Rattle.ca_machine.proofs.coming.entry_of.Goals as goal

pub returns-in-Ok : goal.returns-in-Ok
returns-in-Ok c h k at used =
    entry_so (rules_of c.args.own.now.code) (state c.args.shared.now) c.args.own.now.thread k h c.next-next.result c.can_retry-retry.result (c.can_retry-retry.ensures h at) (c.next-next.ensures h at) c.in-Ok.act c.taken.result.now (c.taken.ensures h at)
    (λ w shown. rw c.thread.ensures at c.in-Ok.ensures (state c.args.shared.now) k w c.parts.ensures c.joined_ended-joined.ensures used shown)
