use Rattle.std.proofs.Common.{length, ◌-◌}
use Rattle.ca_memory.specs.Kept.{blocks_of}
use Rattle.ca_memory.proofs.Hiding.{HiddenTo}
use Rattle.ca_memory.proofs.blocks.hide_all.Given as goal

abbrev pub invariant-things : goal.invariant-things
invariant-things l = HiddenTo (blocks_of l.fn.table.entries) (blocks_of l.table.entries) l.things l.index

abbrev pub decreases-things : goal.decreases-things
decreases-things l = length l.things - l.index
