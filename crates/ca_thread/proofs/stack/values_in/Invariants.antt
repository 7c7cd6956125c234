use Rattle.std.proofs.Common.{◌≡◌, map, take}
use Rattle.ca_flow.specs.Instructions.{reg}
use Rattle.ca_thread.proofs.stack.values_in.Given as goal

abbrev pub invariant-registers : goal.invariant-registers
invariant-registers l = l.values.items ≡ map (reg l.row) (take l.a-index l.from)
