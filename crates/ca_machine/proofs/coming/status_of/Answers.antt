use Rattle.ca_flow.specs.Lowerings.{rules_of}
use Rattle.ca_shared.specs.Histories.{state}
use Rattle.ca_machine.proofs.Told.{times_out_so, moves_so}
use Rattle.ca_machine.proofs.coming.status_of.Goals as goal

pub returns-then-times_out : goal.returns-then-times_out
returns-then-times_out c h k at =
    times_out_so (rules_of c.args.own.now.code) (state c.args.shared.now) c.args.own.now.thread k h c.next-next.result c.can_retry-retry.result (c.can_retry-retry.ensures h at) (c.next-next.ensures h at) c.comes.result c.times_out.result
    (λ gives w shown. c.comes.ensures (state c.args.shared.now) c.args.own.now.thread k gives w c.parts.ensures c.joined_ended-joined.ensures shown)
    (λ gives w a shown is. c.times_out.ensures (state c.args.shared.now) c.args.own.now.thread k gives w a c.parts-then-comes.ensures shown is)
    c.if-comes.true c.if-times_out.true

pub returns-then-comes : goal.returns-then-comes
returns-then-comes c h k at =
    moves_so (rules_of c.args.own.now.code) (state c.args.shared.now) c.args.own.now.thread k h c.next-next.result c.can_retry-retry.result (c.can_retry-retry.ensures h at) (c.next-next.ensures h at) c.comes.result c.times_out.result
    (λ gives w shown. c.comes.ensures (state c.args.shared.now) c.args.own.now.thread k gives w c.parts.ensures c.joined_ended-joined.ensures shown)
    (λ gives w a shown is. c.times_out.ensures (state c.args.shared.now) c.args.own.now.thread k gives w a c.parts-then-comes.ensures shown is)
    c.if-comes.true c.if-times_out.false
