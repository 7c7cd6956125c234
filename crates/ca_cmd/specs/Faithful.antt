-- What the top call says of the list whose text it puts: hardening has added nothing to it.
use Rattle.std.specs.Prelude.{◌≡◌, ◌≤◌, ℕ, List}
use Rattle.ca_tree.specs.declared.numbers.SiteId.{SiteId}
use Rattle.ca_model.specs.declared.plan.Plan.{Plan}
use Rattle.ca_model.specs.declared.values.Event.{Event}
use Rattle.ca_model.specs.declared.values.EventAct.{EventAct}
use Rattle.ca_model.specs.Activations.{IsActivation, tries_in}
use Rattle.ca_model.specs.Codes.{Typed}
use Rattle.ca_model.specs.Projection.{projection}
use Rattle.ca_check.specs.Projections.{IsErased}
use Rattle.ca_commands.specs.Words.{Command, Run, Check, Sites, Project, Lift}
use Rattle.ca_cmd.specs.Traced.{events_text}
use Rattle.ca_cmd.specs.Commands.{Cause, Misworded, Refused, Ran, Traced, Tabled}

-- no activation in these entries has more tries at a site than the limit
abbrev pub AreBounded : ℕ → List Event → Type 0
AreBounded limit events = (t : ℕ) (acts : List EventAct) → IsActivation t events acts → (site : SiteId) → tries_in site acts ≤ limit

-- these entries are a run of the source under the plan. Without its abandoned attempts it is this list: a run of the source, with the same shared state and,
-- where that is over, the same ending. And no activation retries past the limit
pub record AddsNothing (p : Typed) (plan : Plan) (events list : List Event) : Type 0 where
  pub projected : list ≡ projection events
  pub erased : IsErased p plan events list
  pub bounded : AreBounded plan.limit events

-- what a text that a command makes of a trace is
abbrev pub IsFaithfulText : Command → Typed → Plan → List Event → List ℕ → Type 0
IsFaithfulText (Run o) p plan events text = Unit {0}
IsFaithfulText (Check o) p plan events text = (list : List Event) × AddsNothing p plan events list
IsFaithfulText (Sites o) p plan events text = Unit {0}
IsFaithfulText (Project o) p plan events text = (list : List Event) × (text ≡ events_text list) × AddsNothing p plan events list
IsFaithfulText (Lift o) p plan events text = (list : List Event) × (text ≡ events_text list) × AddsNothing p plan list events

-- the list whose report was put adds nothing; a projection that was put is that of such a list, and a lifted list is such a list
abbrev pub IsFaithful : Cause → Type 0
IsFaithful Misworded = Unit {0}
IsFaithful (Refused c r) = Unit {0}
IsFaithful (Ran o x plan events last end) = (list : List Event) × AddsNothing x.typed plan events list
IsFaithful (Traced c x plan events text) = IsFaithfulText c x.typed plan events text
IsFaithful (Tabled o x text) = Unit {0}
