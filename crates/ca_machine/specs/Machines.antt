-- What contracts see of a machine, the state that its trace reaches, and how its parts stand as that state.
use Rattle.std.specs.Prelude.{◌≡◌, ℕ, List, [], ◌∷◌, ◌++◌, length, Some, None, slice_get}
use Rattle.ca_tree.specs.declared.numbers.FunId.{FunId}
use Rattle.ca_model.specs.declared.plan.Plan.{Plan}
use Rattle.ca_model.specs.declared.values.Value.{Value}
use Rattle.ca_model.specs.declared.values.Event.{Event}
use Rattle.ca_model.specs.Asks.{Creates}
use Rattle.ca_model.specs.Codes.{Typed, code_of}
use Rattle.ca_model.specs.Machine.{Rules, State, Run}
use Rattle.ca_model.specs.Matched.{LeadsTo}
use Rattle.ca_model.specs.Opening.{opening}
use Rattle.ca_model.specs.Hardened.{Hardened, hardened}
use Rattle.ca_flow.specs.Lowerings.{Lowering, rules_of}
use Rattle.ca_shared.specs.Histories.{History, state}
use Rattle.ca_thread.specs.Entered.{with_entry}
use Rattle.ca_thread.specs.Privates.{Thread, IsStart}

-- a source, a plan and the entries so far
pub record Traced : Type 0 where
  pub source : Typed
  pub plan : Plan
  pub trace : List Event

-- what threads of a source do under a plan
abbrev pub rules : Traced → Rules Hardened
rules m = hardened (code_of m.source m.plan)

-- the entries lead from the opening to this state
abbrev pub Reaches : Traced → State Hardened → Type 0
Reaches m s = Run (rules m) (opening (rules m) m.source) m.trace s

abbrev pub went : Traced → Event → Traced
went m e = record m { trace = m.trace ++ e ∷ [] }

-- a thread by itself stands at a state of it, and goes on by an entry of its own
abbrev pub IsAt : Thread → Hardened → Type 0
IsAt p h = LeadsTo (rules_of p.code) p.own h

abbrev pub went_on : Thread → Event → Thread
went_on p e = record p { own = with_entry p.own e.act; prepared = None }

-- it is thread t of a state
pub record IsThread (l : Lowering) (t : ℕ) (h : Hardened) (p : Thread) : Type 0 where
  pub code : p.code ≡ l
  pub number : p.thread ≡ t
  pub stands : IsAt p h

-- the parts of a machine stand as a state that its entries reach
pub record StandAs (code : Lowering) (shared : History) (ps : List Thread) (s : State Hardened) : Type 0 where
  pub run : Run (hardened (rules_of code)) (opening (hardened (rules_of code)) code.source) shared.trace s
  pub globals : shared.globals ≡ code.source.globals
  pub mutexes : shared.mutexes ≡ code.source.mutexes
  pub same : s.shared ≡ state shared
  pub counted : s.shared.threads ≡ length s.threads
  pub as_many : length ps ≡ length s.threads
  pub each : (t : ℕ) (p : Thread) (h : Hardened) → slice_get ps t ≡ Some p → slice_get s.threads t ≡ Some h → IsThread code t h p

-- and there is such a state
abbrev pub AreParts : Lowering → History → List Thread → Type 0
AreParts code shared ps = (s : State Hardened) × StandAs code shared ps s

-- where it stands at a create, the function is named in a create of the source
pub record CanCreate (p : Thread) : Type 0 where
  pub state : Hardened
  pub at : IsAt p state
  pub named : (f : FunId) (x : Value) (n : ℕ) → (hardened (rules_of p.code)).want state ≡ Creates f x → (n ≡ 0 → ⊥) → IsStart p.code.source n f
