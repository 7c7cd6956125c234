-- Which entries can be written: each number is within its range, a `malloc` gives null or the start of a block, and a
-- `free` takes null or an address.
use Rattle.std.specs.Prelude.{◌≡◌, ◌<◌, ◌^◌, pos, All, FitsSigned}
use Rattle.std.specs.Int.{w32, w64}
use Rattle.ca_model.specs.declared.values.Addr.{Addr}
use Rattle.ca_model.specs.declared.values.Value.{Value}
use Rattle.ca_model.specs.declared.values.Value.TheVariants as v
use Rattle.ca_model.specs.declared.values.Given.{Given}
use Rattle.ca_model.specs.declared.values.Given.TheVariants as given
use Rattle.ca_model.specs.declared.values.Event.{Event}
use Rattle.ca_model.specs.declared.values.EventAct.{EventAct}
use Rattle.ca_model.specs.declared.values.EventAct.TheVariants as act

-- an offset has 32 bits, and may be negative
abbrev pub AddressFits : Addr → Type 0
AddressFits a = (a.block < 2 ^ 32) × FitsSigned w32 a.offset

abbrev pub ValueFits : Value → Type 0
ValueFits (v.Num n) = FitsSigned w32 n
ValueFits (v.Addr a) = AddressFits a

-- null, or the first cell of a block
abbrev pub IsBlockStart : Value → Type 0
IsBlockStart (v.Num n) = n ≡ pos 0
IsBlockStart (v.Addr a) = (a.block < 2 ^ 32) × (a.offset ≡ pos 0)

-- null, or an address
abbrev pub MayBeFreed : Value → Type 0
MayBeFreed (v.Num n) = n ≡ pos 0
MayBeFreed (v.Addr a) = AddressFits a

abbrev pub GivenFits : Given → Type 0
GivenFits (given.Mutex m) = m.0 < 2 ^ 32
GivenFits (given.Block b) = b < 2 ^ 32

abbrev pub ActFits : EventAct → Type 0
ActFits (act.Read at x) = AddressFits at × ValueFits x
ActFits (act.Write at x) = AddressFits at × ValueFits x
ActFits (act.Lock m) = m.0 < 2 ^ 32
ActFits (act.Unlock m) = m.0 < 2 ^ 32
ActFits (act.Malloc cells at) = FitsSigned w64 cells × IsBlockStart at
ActFits (act.Free at) = MayBeFreed at
ActFits (act.Print text) = All (λ b. b < 256) text
ActFits (act.Create u) = u < 2 ^ 32
ActFits (act.Join u) = u < 2 ^ 32
ActFits (act.Call f) = f.0 < 2 ^ 32
ActFits (act.Return x) = ValueFits x
ActFits act.Turn = Unit {0}
ActFits act.End = Unit {0}
ActFits (act.Fault k) = Unit {0}
ActFits act.Save = Unit {0}
ActFits (act.Retry site gives) = (site.0 < 2 ^ 32) × All GivenFits gives

abbrev pub IsWritable : Event → Type 0
IsWritable e = (e.thread < 2 ^ 32) × ActFits e.act
