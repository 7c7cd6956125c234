use Rattle.std.proofs.Common.{◌≡◌, ◌≤◌, length, drop}
use Rattle.ca_model.specs.declared.values.Given.{Given}
use Rattle.ca_model.specs.Shared.{Shared}
use Rattle.ca_entries.specs.Shares.{IsSharedBy, given_back}
use Rattle.ca_wants.specs.Met.{met}
use Rattle.ca_entries.proofs.Giving.{stands_in}
use Rattle.ca_entries.proofs.rollback.gives.Given as goal

abbrev pub invariant-things : goal.invariant-things
invariant-things l = record {
  within : l.left ≤ length l.taken;
  met : (g : Given) → met l.mutexes l.blocks g ≡ stands_in (drop l.left l.taken) g;
  given : (g : Shared) → IsSharedBy g l.parts.memory.now l.parts.owners.now l.parts.threads → l.given.items ≡ given_back g l.thread (drop l.left l.taken);
}

abbrev pub decreases-things : goal.decreases-things
decreases-things l = l.left
