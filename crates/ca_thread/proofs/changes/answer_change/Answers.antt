use Rattle.std.proofs.Common.{refl, subst}
use Rattle.ca_thread.specs.Standing.{AreStanding}
use Rattle.ca_thread.proofs.Changing.{ready, answer_makes}
use Rattle.ca_thread.proofs.changes.answer_change.Goals as goal

pub callee-requires : goal.callee-requires
callee-requires c =
    let l = c.args.code.now in
    let frames = c.args.frames.now in
    let h = c.requires.stands in
    let t = ready l frames frames h.0 c.args.act.now c.in-Some.answer refl h.1 c.in-Some.ensures in
    (t.frame, t.rest, t.want, subst (AreStanding l frames) t.is h.1, t.asks)

pub returns : goal.returns
returns c h standing =
    let l = c.args.code.now in
    let frames = c.args.frames.now in
    let t = ready l frames frames h.frames c.args.act.now c.in-Some.answer refl standing c.in-Some.ensures in
    answer_makes l h c.args.act.now c.in-Some.answer c.given_at_top-taken.result c.in-Ok.callee c.requires.answer t (c.given_at_top-taken.ensures h.frames standing)
    (c.in-Ok.ensures t.frame t.rest t.want (subst (AreStanding l frames) t.is standing) t.asks)
