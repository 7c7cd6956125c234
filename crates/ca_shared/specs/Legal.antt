-- Histories whose entries were legal, and what legal entries leave.
use Rattle.std.specs.Prelude.{◌≡◌, ◌<◌, ◌≤◌, ◌^◌, ◌↔◌, ℕ, true, Some, None}
use Rattle.std.specs.FinMap as map
use Rattle.std.specs.FinSet as set
use Rattle.ca_model.specs.declared.values.Value.{Value}
use Rattle.ca_model.specs.declared.values.Value.TheVariants as v
use Rattle.ca_model.specs.declared.values.Event.{Event}
use Rattle.ca_model.specs.declared.values.EventAct.{EventAct}
use Rattle.ca_model.specs.declared.values.EventAct.TheVariants as act
use Rattle.ca_model.specs.Shared.{Shared, Open, IsLegal}
use Rattle.ca_model.specs.Machine.{AllLegal}
use Rattle.ca_model.specs.ComingEntries.{EndedBelow}
use Rattle.ca_shared.specs.Histories.{History, opened, state}
use Rattle.ca_shared.specs.Refusals.{refusal}

-- each entry was legal when it was made
abbrev pub IsLegalHistory : History → Type 0
IsLegalHistory h = AllLegal (opened h.globals h.mutexes) h.trace

-- a block number of 32 bits
abbrev pub HasNumber : Value → Type 0
HasNumber (v.Num n) = Unit {0}
HasNumber (v.Addr a) = a.block < 2 ^ 32

abbrev pub IsNumbered : EventAct → Type 0
IsNumbered (act.Malloc n x) = HasNumber x
IsNumbered _ = Unit {0}

-- owned mutexes are there, and so are threads that have ended; there are at most 64 threads, and while the run is open each that has ended was made by a create
pub record IsWellKept (s : Shared) : Type 0 where
  pub owned : (m u : ℕ) → map.get s.owners m ≡ Some u → m < s.mutexes
  pub ended : (u : ℕ) → set.contains s.ended u ≡ true → u < s.threads
  pub few : s.threads ≤ 64
  pub made : s.phase ≡ Open → EndedBelow s

-- legal entries leave such states
abbrev pub LegalEntriesKeep : Type 0
LegalEntriesKeep = (h : History) → IsLegalHistory h → IsWellKept (state h)

-- and behind them an entry is legal exactly where nothing refuses it
abbrev pub RefusalsAreExact : Type 0
RefusalsAreExact = (h : History) → IsLegalHistory h → (e : Event) → IsNumbered e.act → (refusal (state h) e ≡ None) ↔ IsLegal (state h) e.thread e.act
