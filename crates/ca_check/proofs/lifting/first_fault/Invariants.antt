use Rattle.std.proofs.Common.{take}
use Rattle.ca_erasure.specs.Lifted.{IsFailureFree}
use Rattle.ca_check.proofs.lifting.first_fault.Given as goal

-- none of the entries so far is a fault
abbrev pub invariant-entries : goal.invariant-entries
invariant-entries l = IsFailureFree (take l.index l.events)
