use Rattle.std.proofs.Common.{◌≡◌, length, take}
use Rattle.ca_reach.specs.Reach.{rows_of}
use Rattle.ca_region.proofs.Filling.{IsFilled}
use Rattle.ca_region.proofs.back.back_rows.Given as goal

abbrev pub invariant-links : goal.invariant-links
invariant-links l = record {
  long : length (rows_of l.rows.items) ≡ l.count;
  filled : IsFilled l.lowest l.count (take l.link-index l.links) (rows_of l.rows.items);
}
