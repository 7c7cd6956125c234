use Rattle.std.proofs.Common.{◌≡◌, map, refl, sym, ap, subst, ◌∙◌}
use Rattle.std.specs.Prelude.{◌<◌, vec_len, vec_capacity}
use Rattle.ca_model.specs.declared.values.Event.{Event}
use Rattle.ca_model.specs.Matched.{Own}
use Rattle.ca_thread.specs.Changes.{StandsAs, Makes}
use Rattle.ca_thread.specs.Privates.{Thread, IsThere, IsTextAt, IsReadyFor, IsReady}
use Rattle.ca_thread.proofs.Advancing.{entered, stands_here, with_acts, mine_with}
use Rattle.ca_thread.proofs.private.Private.commit.Goals as goal

pub invariant_of-self-2 : goal.invariant_of-self-2
invariant_of-self-2 c =
    let l = c.args.code.now in
    let self = c.self.inside in
    let m = self.code.value in
    let same : m ≡ l = ap (λ (t : Thread). t.code) c.self.view_is ∙ sym c.requires in
    let own : Own = record { function = self.function; argument = self.argument; entries = map (λ (e : Event). e.act) self.events.items } in
    let there = c.self.invariant.0 in
    let prepared = c.in-Some.prepared in
    let ready : IsReadyFor m self.thread own (vec_len self.frames < vec_capacity self.frames) (vec_len self.events < vec_capacity self.events) self.saved prepared =
    subst (IsReady m self.thread own (vec_len self.frames < vec_capacity self.frames) (vec_len self.events < vec_capacity self.events) self.saved) (sym c.in-Some.ensures.value) c.self.invariant.4 in
    let goes = ready.goes there.state there.leads in
    let stands = c.apply.ensures there.state goes.0 (subst (λ n. StandsAs n self.frames.items self.saved there.state) same (stands_here m self.thread own self.frames.items self.saved there)) (subst (λ n. Makes n there.state prepared.change goes.0) same goes.2) in (
      subst (λ o. IsThere m self.thread o c.apply.new.frames.items c.apply.new.saved) (with_acts self.function self.argument self.events.items self.events.items c.push_event.new.events.items prepared.entry prepared.entry refl refl c.push_event.ensures)
          (entered m self.thread own self.frames.items c.apply.new.frames.items self.saved c.apply.new.saved there prepared.entry.act goes.0 goes.1 (subst (λ n. StandsAs n c.apply.new.frames.items c.apply.new.saved goes.0) (sym same) stands)),
      mine_with self.thread self.events.items self.events.items c.push_event.new.events.items prepared.entry prepared.entry c.self.invariant.1 refl refl ready.mine c.push_event.ensures,
      subst (λ n. IsTextAt n c.apply.new.frames.items c.note_text.new.text.items) (sym same) (subst (λ rows. IsTextAt l rows c.note_text.new.text.items) c.deref.ensures.value c.note_text.ensures.text),
      c.note_text.ensures.room,
      subst (IsReady m self.thread (record { function = self.function; argument = self.argument; entries = map (λ (e : Event). e.act) c.push_event.new.events.items }) (vec_len c.apply.new.frames < vec_capacity c.apply.new.frames) (vec_len c.push_event.new.events < vec_capacity c.push_event.new.events) c.apply.new.saved) (sym c.in-Some.ensures.after) tt,
    )
