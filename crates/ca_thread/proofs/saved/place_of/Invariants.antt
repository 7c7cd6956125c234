use Rattle.std.proofs.Common.{◌≡◌, ◌+◌, drop}
use Rattle.ca_thread.specs.Kept.{place_in}
use Rattle.ca_thread.proofs.saved.place_of.Given as goal

abbrev pub invariant-tried : goal.invariant-tried
invariant-tried l = record {
  count : l.place ≡ l.one-index;
  same : l.place + place_in (drop l.one-index l.tried) l.site ≡ place_in l.tried l.site;
}
