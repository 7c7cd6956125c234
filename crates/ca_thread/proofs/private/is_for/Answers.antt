use Rattle.std.proofs.Common.{◌≡◌, Some, sym, ap, ◌∙◌}
use Rattle.std.specs.Prelude.{option_map}
use Rattle.ca_model.specs.declared.values.Event.{Event}
use Rattle.ca_thread.specs.declared.private.Prepared.{Prepared}
use Rattle.ca_thread.proofs.Preparing.{same_some}
use Rattle.ca_model.proofs.SameEvents.{equal, same_event, equal_events}
use Rattle.ca_thread.proofs.private.is_for.Goals as goal

pub returns-in-Some : goal.returns-in-Some
returns-in-Some c =
    let entry = c.in-Some.prepared.entry in
    let event = c.args.event.now in
    let is : option_map (λ (q : Prepared). q.entry) c.args.prepared.now ≡ Some entry = ap (option_map (λ (q : Prepared). q.entry)) c.in-Some.is in
    let same : c.eq.result ≡ equal entry event = c.eq.ensures in
    ((λ t. is ∙ ap (λ (e : Event). Some e) (same_event entry event (sym same ∙ t))), λ e. same ∙ equal_events entry event (same_some entry event (sym is ∙ e)))
