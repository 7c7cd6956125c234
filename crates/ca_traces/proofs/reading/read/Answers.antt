use Rattle.std.proofs.Common.{◌∙◌, ◌+◌, ◌<◌, [], ◌∷◌, ap, length, refl, arith, length-append}
use Rattle.ca_traces.specs.Readings.{MayFollow}
use Rattle.ca_traces.proofs.Lines.{begins_more, lacks_entry, lacks_end, refused}
use Rattle.ca_traces.proofs.reading.read.Goals as goal

pub returns-in_default-2 : goal.returns-in_default-2
returns-in_default-2 c =
    let none = rw c.in_default-2.is at c.in_ok-event.ensures in
    lacks_entry c.args.text.now c.in-Some.count c.entries.k (c.entries.k + 2) c.entries.events.items c.entries.rest.now c.entries.invariant.0 c.entries.invariant.1 c.entries-test.true refl none

pub entries-preserved : goal.entries-preserved
entries-preserved c =
    let entry = rw c.in-Some-2.is at c.in_ok-event.ensures in
    let n = c.entries.invariant.1 in
    let room : length c.entries.events.items < c.in-Some.count = omega (arith, n, c.entries-test.true) in
    let longer = c.in_ok-push.ensures.items in (
      begins_more c.args.text.now c.in-Some.count c.entries.events.items c.push.new.self.items c.in-Some-2.event c.entries.rest.now c.in-Some-2.behind.now c.entries.invariant.0 room entry longer,
      ap length longer ∙ (length-append c.entries.events.items (c.in-Some-2.event ∷ []) ∙ ap (λ n. n + 1) n),
    )

pub returns-else-may_follow : goal.returns-else-may_follow
returns-else-may_follow c =
    let n = c.entries.invariant.1 in
    lacks_end c.args.text.now c.in-Some.count (c.in-Some.count + 2) c.entries.events.items c.entries.rest.now c.entries.invariant.0 (omega (arith, n, c.entries-test.false)) refl (refused (MayFollow c.entries.rest.now) c.may_follow.result c.may_follow.ensures c.if-may_follow.false)
