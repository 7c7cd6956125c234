use Rattle.std.proofs.Common.{◌≡◌, ◌++◌, take, replicate}
use Rattle.ca_model.specs.Arith.{null}
use Rattle.ca_thread.proofs.stack.row_of.Given as goal

abbrev pub invariant-registers : goal.invariant-registers
invariant-registers l = l.row.items ≡ take l.place (l.values ++ replicate l.registers null)
