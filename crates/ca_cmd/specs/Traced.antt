-- What a command on a trace makes of its entries.
use Rattle.std.specs.Prelude.{◌≡◌, ℕ, List, ◌++◌, length, codes}
use Rattle.std.specs.Fmt.{decimal}
use Rattle.std.specs.List.{flat_map}
use Rattle.ca_model.specs.declared.plan.Plan.{Plan}
use Rattle.ca_model.specs.declared.values.Event.{Event}
use Rattle.ca_model.specs.declared.values.Ending.{Ending}
use Rattle.ca_model.specs.Codes.{Typed}
use Rattle.ca_model.specs.Projection.{projection}
use Rattle.ca_model.specs.Reports.{ending_text}
use Rattle.ca_model.specs.SourceRuns.{no_plan}
use Rattle.ca_model.specs.Traces.{line_end, trace_lines}
use Rattle.ca_check.specs.Verdicts.{IsRunTo}
use Rattle.ca_check.specs.Projections.{IsRun}
use Rattle.ca_check.specs.Lifts.{IsLiftOf, IsFaultAt}
use Rattle.ca_commands.specs.Words.{Command, Run, Check, Sites, Project, Lift}

-- `accepted <n> <word>`
abbrev pub accepted_text : ℕ → Ending → List ℕ
accepted_text n end = codes "accepted " ++ (decimal n ++ (codes " " ++ (ending_text end ++ line_end)))

-- the text of a trace
abbrev pub events_text : List Event → List ℕ
events_text events = flat_map (λ line. line) (trace_lines events)

-- the plan under which its entries are followed: a list that is lifted is one of the source without hardening
abbrev pub followed : Command → Plan → Plan
followed (Run o) plan = plan
followed (Check o) plan = plan
followed (Sites o) plan = plan
followed (Project o) plan = plan
followed (Lift o) plan = no_plan

-- the text that is made of them
abbrev pub IsMade : Command → Typed → Plan → List Event → List ℕ → Type 0
IsMade (Run o) p plan events text = ⊥
IsMade (Check o) p plan events text = (end : Ending) × IsRunTo p plan events end × (text ≡ accepted_text (length events) end)
IsMade (Sites o) p plan events text = ⊥
IsMade (Project o) p plan events text = IsRun p plan events × (text ≡ events_text (projection events))
IsMade (Lift o) p plan events text = (list : List Event) × IsLiftOf p plan events list × (text ≡ events_text list)

-- the fault entry for which they can't be lifted
abbrev pub IsUnliftable : Command → Typed → List Event → ℕ → Type 0
IsUnliftable (Run o) p events index = ⊥
IsUnliftable (Check o) p events index = ⊥
IsUnliftable (Sites o) p events index = ⊥
IsUnliftable (Project o) p events index = ⊥
IsUnliftable (Lift o) p events index = IsFaultAt p events index
