use Rattle.std.proofs.Common.{length, ◌-◌}
use Rattle.ca_memory.proofs.Lending.{GivenTo}
use Rattle.ca_memory.proofs.owners.give_all.Given as goal

abbrev pub invariant-things : goal.invariant-things
invariant-things l = GivenTo l.fn.owners l.owners l.t l.things l.index

abbrev pub decreases-things : goal.decreases-things
decreases-things l = length l.things - l.index
