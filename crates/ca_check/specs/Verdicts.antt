-- Which lists of entries are runs of a source under a plan, to which ending, and which entry of any other list is the first that is
-- no step.
use Rattle.std.specs.Prelude.{◌≡◌, ℕ, List, take, slice_get, Some, Result, Ok, Err}
use Rattle.ca_model.specs.declared.plan.Plan.{Plan}
use Rattle.ca_model.specs.declared.values.Event.{Event}
use Rattle.ca_model.specs.declared.values.Ending.{Ending}
use Rattle.ca_model.specs.Codes.{Typed, code_of}
use Rattle.ca_model.specs.Hardened.{Hardened, hardened}
use Rattle.ca_model.specs.Machine.{Rules, State, Run, Step}
use Rattle.ca_model.specs.Opening.{opening, EndsAs}
use Rattle.ca_check.specs.declared.checking.CheckNo.{CheckNo}
use Rattle.ca_check.specs.declared.checking.CheckNo.TheVariants as no

-- what threads of a source do under a plan
abbrev pub rules : Typed → Plan → Rules Hardened
rules p plan = hardened (code_of p plan)

-- the entries lead from the opening to this state
abbrev pub LeadTo : Typed → Plan → List Event → State Hardened → Type 0
LeadTo p plan events s = Run (rules p plan) (opening (rules p plan) p) events s

-- they are a run, which has this ending
pub record IsRunTo (p : Typed) (plan : Plan) (events : List Event) (end : Ending) : Type 0 where
  pub last : State Hardened
  pub run : LeadTo p plan events last
  pub ends : EndsAs (rules p plan) last end

-- the entries before this place are a run, and the entry there is no step after them
pub record IsFirstNoStep (p : Typed) (plan : Plan) (events : List Event) (index : ℕ) : Type 0 where
  pub entry : Event
  pub stands : slice_get events index ≡ Some entry
  pub before : State Hardened
  pub run : LeadTo p plan (take index events) before
  pub none : (new : State Hardened) → Step (rules p plan) before entry new → ⊥

-- what a list is answered with; want of memory may come at any list
abbrev pub IsVerdict : Typed → Plan → List Event → Result Ending CheckNo → Type 0
IsVerdict p plan events (Ok end) = IsRunTo p plan events end
IsVerdict p plan events (Err (no.NotARun index)) = IsFirstNoStep p plan events index
IsVerdict p plan events (Err no.NoMemory) = Unit {0}
