use Rattle.std.proofs.Common.{sym, subst, length}
use Rattle.ca_memory.specs.Kept.{AreCounts}
use Rattle.ca_memory.proofs.Globals.{counted}
use Rattle.ca_memory.proofs.memory.Memory.open.Goals as goal

pub invariant_of-result : goal.invariant_of-result
invariant_of-result c = subst (λ m. AreCounts m 0 (length c.args.globals.now) (length c.args.globals.now)) (sym c.in_ok-table.ensures) (counted c.args.globals.now c.requires.few c.requires.short)
