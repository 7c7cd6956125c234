use Rattle.std.proofs.Common.{◌≡◌, ◌≤◌, length, take}
use Rattle.ca_memory.specs.Kept.{blocks_of}
use Rattle.ca_memory.specs.Hidden.{shown}
use Rattle.ca_memory.proofs.blocks.show_all.Given as goal

abbrev pub invariant-things : goal.invariant-things
invariant-things l = record {
  within : l.left ≤ length l.things;
  shown : shown (blocks_of l.table.entries) (take l.left l.things) ≡ shown (blocks_of l.fn.table.entries) l.things;
}

abbrev pub decreases-things : goal.decreases-things
decreases-things l = l.left
