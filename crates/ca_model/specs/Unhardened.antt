-- Without a plan the hardened machine is the machine of the source.
use Rattle.std.specs.Prelude.{◌≡◌, ◌↔◌, List, map, None}
use Rattle.ca_model.specs.declared.values.Event.{Event}
use Rattle.ca_model.specs.declared.values.Ending.{Ending}
use Rattle.ca_model.specs.Private.{Thread}
use Rattle.ca_model.specs.Machine.{Rules, State, Run}
use Rattle.ca_model.specs.Hardened.{Hardened, hardened}
use Rattle.ca_model.specs.Codes.{Typed, code_of}
use Rattle.ca_model.specs.Opening.{opening, EndsAs}
use Rattle.ca_model.specs.SourceRuns.{no_plan, rules_of}

-- a hardened thread that has saved nothing
abbrev pub unsaved : Thread → Hardened
unsaved t = record { frames = t; saved = None }

abbrev pub unsaved_state : State Thread → State Hardened
unsaved_state s = record { shared = s.shared; threads = map unsaved s.threads }

abbrev pub unhardened : Typed → Rules Hardened
unhardened p = hardened (code_of p no_plan)

-- both have the same runs, and these end alike
pub record RunsAlike (p : Typed) : Type 0 where
  pub hardened : (es : List Event) (s : State Thread) → Run (rules_of p) (opening (rules_of p) p) es s → Run (unhardened p) (opening (unhardened p) p) es (unsaved_state s)
  pub source : (es : List Event) (s : State Hardened) → Run (unhardened p) (opening (unhardened p) p) es s
      → (t : State Thread) × (s ≡ unsaved_state t) × Run (rules_of p) (opening (rules_of p) p) es t
  pub ends : (s : State Thread) (end : Ending) → EndsAs (rules_of p) s end ↔ EndsAs (unhardened p) (unsaved_state s) end
