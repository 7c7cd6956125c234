-- One entry more of a thread's own.
use Rattle.std.specs.Prelude.{◌≡◌, ◌==◌, ℕ, [], ◌∷◌, ◌++◌, Option, Some, None, Result, Ok, Err, if◌then◌else◌}
use Rattle.ca_model.specs.declared.values.EventAct.{EventAct}
use Rattle.ca_model.specs.declared.values.EventAct.TheVariants as act
use Rattle.ca_model.specs.declared.values.Event.{Event}
use Rattle.ca_model.specs.Frames.{Code}
use Rattle.ca_model.specs.Hardened.{Hardened, hardened_advance}
use Rattle.ca_model.specs.Matched.{Own}
use Rattle.ca_thread.specs.declared.changes.AdvanceNo.{AdvanceNo}
use Rattle.ca_thread.specs.declared.changes.AdvanceNo.TheVariants as no

abbrev pub with_entry : Own → EventAct → Own
with_entry o a = record { function = o.function; argument = o.argument; entries = o.entries ++ a ∷ [] }

-- an entry that answers what a thread wants, beside saves, retries and faults
abbrev pub IsAnswer : EventAct → Type 0
IsAnswer act.Save = ⊥
IsAnswer (act.Retry site gives) = ⊥
IsAnswer (act.Fault k) = ⊥
IsAnswer _ = Unit {0}

-- the thread after an event, if it is one of its own that it allows
abbrev pub own_advance : Code → ℕ → Hardened → Event → Option Hardened
own_advance code thread h e = if e.thread == thread then hardened_advance code h e.act else None

-- an answer that tells whether it goes on; want of memory says nothing
abbrev pub Tells : Result (Unit {0}) AdvanceNo → Option Hardened → Type 0
Tells (Ok u) o = (k : Hardened) × (o ≡ Some k)
Tells (Err no.NotNext) o = o ≡ None
Tells (Err no.NoMemory) o = Unit {0}
