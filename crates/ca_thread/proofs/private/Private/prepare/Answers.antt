use Rattle.std.proofs.Common.{◌≡◌, List, map, Some, Ok, Err, sym, ap, subst, ◌∙◌}
use Rattle.std.specs.Prelude.{◌<◌, vec_len, vec_capacity}
use Rattle.ca_model.specs.declared.values.Event.{Event}
use Rattle.ca_model.specs.declared.values.EventAct.{EventAct}
use Rattle.ca_model.specs.Hardened.{Hardened, hardened_advance}
use Rattle.ca_model.specs.Matched.{Own, LeadsTo}
use Rattle.ca_flow.specs.Lowerings.{rules_of}
use Rattle.ca_thread.specs.Changes.{Makes}
use Rattle.ca_thread.specs.Entered.{own_advance, Tells}
use Rattle.ca_thread.specs.Privates.{Thread, IsThere, AreMine, IsTextAt, IsReadyFor, IsReady}
use Rattle.ca_thread.specs.declared.private.Prepared.{Prepared}
use Rattle.ca_thread.proofs.Preparing.{grown, told_refusal, told_success, goes_on}
use Rattle.ca_thread.proofs.private.Private.prepare.Goals as goal

pub invariant_of-self-2 : goal.invariant_of-self-2
invariant_of-self-2 c =
    let l = c.args.code.now in
    let self = c.self.inside in
    let m = self.code.value in
    let same : m ≡ l = ap (λ (t : Thread). t.code) c.self.view_is ∙ sym c.requires in
    let own : List EventAct → Own = λ as'. record { function = self.function; argument = self.argument; entries = as' } in
    let before = map (λ (e : Event). e.act) self.events.items in
    let after = map (λ (e : Event). e.act) c.make_room.new.events.items in
    let acts : after ≡ before = ap (map (λ (e : Event). e.act)) c.in-Ok-make_room.ensures.events in
    let there = c.self.invariant.0 in
    let q : Prepared = record { entry = c.in-Ok-make_room.entry; change = c.in-Ok.change } in
    let frames = vec_len c.make_room.new.frames < vec_capacity c.make_room.new.frames in
    let events = vec_len c.make_room.new.events < vec_capacity c.make_room.new.events in
    let ready : IsReadyFor m self.thread (own after) frames events c.make_room.new.saved q = record {
      mine = ap (λ (e : Event). e.thread) c.in-Ok-make_room.ensures.event ∙ c.if-event-self.false;
      frame_place = c.in-Ok-make_room.ensures.places.0;
      event_place = c.in-Ok-make_room.ensures.places.1;
      places = c.in-Ok-make_room.ensures.places.2;
      goes = λ h leads.
          subst (λ (e : Event). (k : Hardened) × (hardened_advance (rules_of m) h e.act ≡ Some k) × Makes m h c.in-Ok.change k) (sym c.in-Ok-make_room.ensures.event)
          (goes_on l m same self.thread (own before) self.frames.items c.deref.result.now self.saved there c.deref.ensures.value c.args.event.now c.in-Ok.change c.in-Ok.ensures h (subst (λ as'. LeadsTo (rules_of m) (own as') h) acts leads));
    } in (
      subst (λ as'. IsThere m self.thread (own as') c.make_room.new.frames.items c.make_room.new.saved) (sym acts)
          (grown m self.thread (own before) self.frames.items c.make_room.new.frames.items self.saved c.make_room.new.saved there c.in-Ok-make_room.ensures.frames c.in-Ok-make_room.ensures.saved),
      subst (AreMine self.thread) (sym c.in-Ok-make_room.ensures.events) c.self.invariant.1,
      subst (λ rows. IsTextAt m rows self.text.items) (sym c.in-Ok-make_room.ensures.frames) c.self.invariant.2,
      c.self.invariant.3,
      subst (IsReady m self.thread (own after) frames events c.make_room.new.saved) (sym c.keep.ensures) ready,
    )

pub returns-clause-exact : goal.returns-clause-exact
returns-clause-exact c =
    let l = c.args.code.now in
    let self = c.self.inside in
    let m = self.code.value in
    let same : m ≡ l = ap (λ (t : Thread). t.code) c.self.view_is ∙ sym c.requires in
    let own : Own = record { function = self.function; argument = self.argument; entries = map (λ (e : Event). e.act) self.events.items } in
    subst (λ (t : Thread). (h : Hardened) → LeadsTo (rules_of t.code) t.own h → Tells (Ok tt) (own_advance (rules_of t.code) t.thread h c.args.event.now)) c.self.view_is
    (told_success l m same self.thread own self.frames.items c.deref.result.now self.saved c.self.invariant.0 c.deref.ensures.value c.args.event.now c.in-Ok.change c.if-event-self.false c.in-Ok.ensures)

pub returns-in-Err-clause-exact : goal.returns-in-Err-clause-exact
returns-in-Err-clause-exact c =
    let l = c.args.code.now in
    let self = c.self.inside in
    let m = self.code.value in
    let same : m ≡ l = ap (λ (t : Thread). t.code) c.self.view_is ∙ sym c.requires in
    let own : Own = record { function = self.function; argument = self.argument; entries = map (λ (e : Event). e.act) self.events.items } in
    subst (λ (t : Thread). (h : Hardened) → LeadsTo (rules_of t.code) t.own h → Tells (Err c.in-Err.no) (own_advance (rules_of t.code) t.thread h c.args.event.now)) c.self.view_is
    (told_refusal l m same self.thread own self.frames.items c.deref.result.now self.saved c.self.invariant.0 c.deref.ensures.value c.args.event.now c.in-Err.no c.if-event-self.false c.in-Err.ensures)
