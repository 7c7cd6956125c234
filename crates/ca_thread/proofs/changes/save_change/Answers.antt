use Rattle.std.proofs.Common.{◌∷◌, refl, sym, subst, ◌∙◌}
use Rattle.ca_model.specs.Arith.{null}
use Rattle.ca_model.specs.Frames.{answered}
use Rattle.ca_model.specs.Hardened.{fresh}
use Rattle.ca_flow.specs.Lowerings.{rules_of}
use Rattle.ca_thread.specs.Standing.{AreStanding}
use Rattle.ca_thread.proofs.Changing.{at_save, saved_by}
use Rattle.ca_thread.proofs.changes.save_change.Goals as goal

pub returns : goal.returns
returns c h standing =
    let l = c.args.code.now in
    let t = at_save (rules_of l) h.frames (sym (c.saves_at_top.ensures h.frames standing) ∙ c.if-not-saves_at_top.false) in
    (fresh (answered (rules_of l) t.frame null ∷ t.rest), saved_by (rules_of l) h t, (t.frame, t.rest, t.is, t.asks, c.in-Ok.ensures t.frame t.rest (subst (AreStanding l c.args.frames.now) t.is standing) t.asks, refl))
