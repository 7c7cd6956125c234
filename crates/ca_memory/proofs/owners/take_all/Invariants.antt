use Rattle.std.proofs.Common.{◌≡◌, ◌≤◌, length, take}
use Rattle.ca_memory.specs.Hidden.{owners_with_all}
use Rattle.ca_memory.proofs.owners.take_all.Given as goal

abbrev pub invariant-things : goal.invariant-things
invariant-things l = record {
  within : l.left ≤ length l.things;
  taken : owners_with_all l.owners l.t (take l.left l.things) ≡ owners_with_all l.fn.owners l.t l.things;
}

abbrev pub decreases-things : goal.decreases-things
decreases-things l = l.left
