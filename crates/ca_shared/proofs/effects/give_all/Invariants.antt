use Rattle.std.proofs.Common.{◌≡◌, ◌≤◌, ◌-◌, length, drop}
use Rattle.ca_memory.specs.GivenBack.{AreBlocksHeld, AreMutexesHeld, blocks_without_all, owners_without_all}
use Rattle.ca_shared.proofs.effects.give_all.Given as goal

-- what is left to give back is still had, and ends where all would
abbrev pub invariant-things : goal.invariant-things
invariant-things l = record {
  within : l.index ≤ length l.things;
  held : AreBlocksHeld l.memory (drop l.index l.things);
  owned : AreMutexesHeld l.owners l.t (drop l.index l.things);
  blocks : blocks_without_all l.memory (drop l.index l.things) ≡ blocks_without_all l.fn.memory l.things;
  owners : owners_without_all l.owners (drop l.index l.things) ≡ owners_without_all l.fn.owners l.things;
}

abbrev pub decreases-things : goal.decreases-things
decreases-things l = length l.things - l.index
