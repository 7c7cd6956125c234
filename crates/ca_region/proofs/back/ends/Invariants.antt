use Rattle.std.proofs.Common.{◌≡◌, length, take}
use Rattle.ca_region.specs.Regions.{IsAt}
use Rattle.ca_region.proofs.Filling.{IsMarked}
use Rattle.ca_region.proofs.back.ends.Given as goal

abbrev pub invariant-links : goal.invariant-links
invariant-links l = record {
  long : length l.set.items ≡ l.count;
  marked : IsMarked l.lowest l.count (λ n. IsAt l.start l.flags n) (take l.link-index l.links) l.set.items;
}
