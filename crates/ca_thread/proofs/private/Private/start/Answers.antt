use Rattle.std.proofs.Common.{List, [], ◌∷◌, ◌++◌, None, map, refl, sym, ap, subst, ◌∙◌}
use Rattle.ca_model.specs.declared.values.Event.{Event}
use Rattle.ca_thread.specs.Privates.{IsThere, AreMine, IsTextAt}
use Rattle.ca_thread.proofs.PrivateStates.{start_there}
use Rattle.ca_thread.proofs.private.Private.start.Goals as goal

pub invariant_of-result : goal.invariant_of-result
invariant_of-result c =
    let frames = c.push.new.self.items in
    let events : List Event = c.new.result.items in
    let there = start_there c.args.code.now c.of.result.value c.args.thread c.args.function c.args.argument c.in_ok-first.first frames (c.args.argument ∷ []) c.of.ensures c.requires refl c.in_ok-first.ensures
    (c.in_ok-push.ensures.items ∙ ap (λ rows. rows ++ c.in_ok-first.first ∷ []) c.new-frames.ensures.items) in (
      subst (λ es. IsThere c.of.result.value c.args.thread (record { function = c.args.function; argument = c.args.argument; entries = map (λ (e : Event). e.act) es }) frames None) (sym c.new.ensures.items) there,
      subst (AreMine c.args.thread) (sym c.new.ensures.items) refl,
      subst (λ l. IsTextAt l frames c.note_text.new.text.items) (sym c.of.ensures) (subst (λ rows. IsTextAt c.args.code.now rows c.note_text.new.text.items) c.deref.ensures.value c.note_text.ensures.text),
      c.note_text.ensures.room,
      tt,
    )
