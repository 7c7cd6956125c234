use Rattle.std.proofs.Common.{sym, subst}
use Rattle.ca_memory.specs.Kept.{AreCounts}
use Rattle.ca_memory.proofs.memory.Memory.first_not_held.Goals as goal

pub invariant_of-self : goal.invariant_of-self
invariant_of-self c = subst (λ m. AreCounts m c.self.inside.cells c.self.inside.count c.self.inside.least) (sym c.first_gone.ensures.same) c.self.invariant
