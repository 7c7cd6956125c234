use Rattle.std.proofs.Common.{List, sym, ap, subst, ◌∙◌}
use Rattle.ca_model.specs.declared.values.Given.{Given}
use Rattle.ca_model.specs.Hardened.{is_part, latest_first}
use Rattle.ca_thread.specs.Kept.{AreKept}
use Rattle.ca_thread.proofs.PrivateStates.{saved_there}
use Rattle.ca_thread.proofs.Changing.{made_again}
use Rattle.ca_thread.proofs.changes.retry_change.Goals as goal

pub returns : goal.returns
returns c l h keeps retry =
    let there = saved_there l c.in-Some-saved.saved h.saved (subst (λ s. AreKept l s h.saved) c.in-Some-saved.is keeps) in
    let sv = there.0 in
    let list = c.deref.ensures.value ∙ (c.in-Ok.ensures ∙ (ap latest_first (c.taken.ensures ∙ there.2.taken))) in
    let part = c.is_part.ensures ∙ ap (λ (gs : List Given). is_part c.args.gives.now gs) list in
    made_again l h sv c.in-Some.at c.args.site c.args.gives.now c.is_part.result c.tries.result c.in-Ok-frames.frames.items (sym c.in-Some.is ∙ retry) c.if-at-site.false there.1 part c.if-not-is_part.false (c.tries.ensures.tries l sv there.2) (c.in-Ok-frames.ensures l sv there.2)
