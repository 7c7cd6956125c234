use Rattle.std.proofs.Common.{map, Ok, subst}
use Rattle.std.specs.Prelude.{◌<◌, vec_len, vec_capacity}
use Rattle.ca_model.specs.declared.values.Event.{Event}
use Rattle.ca_model.specs.Hardened.{Hardened}
use Rattle.ca_model.specs.Matched.{Own, LeadsTo}
use Rattle.ca_flow.specs.Lowerings.{rules_of}
use Rattle.ca_thread.specs.Entered.{own_advance, Tells}
use Rattle.ca_thread.specs.Privates.{Thread}
use Rattle.ca_thread.proofs.Preparing.{told_prepared}
use Rattle.ca_thread.proofs.private.Private.advance.Goals as goal
use Rattle.ca_thread.proofs.private.Private.advance.Goals.{then-not-is_for+in_ok-prepare, else-not-is_for}

pub returns-clause-exact : goal.returns-clause-exact
returns-clause-exact c = elim c.if-not-is_for.branch [
  | then-not-is_for+in_ok-prepare w ↦ w.in_ok-prepare.ensures.exact
  | else-not-is_for w ↦
      let self = c.self.inside in
      let own : Own = record { function = self.function; argument = self.argument; entries = map (λ (e : Event). e.act) self.events.items } in
      subst (λ (t : Thread). (h : Hardened) → LeadsTo (rules_of t.code) t.own h → Tells (Ok tt) (own_advance (rules_of t.code) t.thread h c.args.event.now)) c.self.view_is
      (told_prepared self.code.value self.thread own (vec_len self.frames < vec_capacity self.frames) (vec_len self.events < vec_capacity self.events) self.saved self.prepared c.args.event.now c.self.invariant.4 (c.is_for.ensures.0 w.if-not-is_for.false))
]
