-- An event as a step of one thread, over the parts of a machine.
use Rattle.std.specs.Prelude.{◌≡◌, ℕ, List, [], ◌∷◌, Option, Some, None, Result, Ok, Err}
use Rattle.ca_model.specs.declared.values.Event.{Event}
use Rattle.ca_model.specs.declared.values.EventAct.{EventAct}
use Rattle.ca_model.specs.declared.values.EventAct.TheVariants as act
use Rattle.ca_model.specs.Shared.{Shared, IsLegal}
use Rattle.ca_model.specs.Hardened.{Hardened, HardenedDue}
use Rattle.ca_flow.specs.Lowerings.{Lowering, rules_of}
use Rattle.ca_thread.specs.Entered.{own_advance}
use Rattle.ca_thread.specs.Privates.{Thread}
use Rattle.ca_machine.specs.Machines.{IsThread}
use Rattle.ca_machine.specs.declared.steps.FollowNo.{FollowNo}
use Rattle.ca_machine.specs.declared.steps.FollowNo.TheVariants as no

-- an answer that decides whether something holds; want of memory says nothing
abbrev pub Decides : {T : Type 0} → Result T FollowNo → Type 0 → Type 0
Decides (Ok x) P = P
Decides (Err no.NotAStep) P = P → ⊥
Decides (Err no.NoMemory) P = Unit {0}

-- the thread allows the event
abbrev pub IsOwn : Thread → Hardened → Event → Type 0
IsOwn p h e = (after : Hardened) × (own_advance (rules_of p.code) p.thread h e ≡ Some after)

-- and so does the shared state
pub record IsEntry (sh : Shared) (p : Thread) (h : Hardened) (e : Event) : Type 0 where
  pub own : IsOwn p h e
  pub legal : IsLegal sh e.thread e.act

-- an entry of which the shared state decides whether it comes
abbrev pub IsJudged : EventAct → Type 0
IsJudged (act.Fault k) = Unit {0}
IsJudged (act.Retry site gives) = Unit {0}
IsJudged _ = ⊥

-- and where it is a fault or a retry, it is due
pub record IsMove (sh : Shared) (p : Thread) (h : Hardened) (e : Event) : Type 0 where
  pub entry : IsEntry sh p h e
  pub due : HardenedDue (rules_of p.code) sh e.thread h e.act

-- the thread that a create makes is there, by itself, and no other one
abbrev pub AreMade : Lowering → ℕ → List Hardened → Option Thread → Type 0
AreMade code n [] None = Unit {0}
AreMade code n (h ∷ []) (Some p) = IsThread code n h p
AreMade code n _ _ = ⊥

-- the number of the thread that an entry makes
abbrev pub number_of : EventAct → ℕ
number_of (act.Create u) = u
number_of _ = 0
