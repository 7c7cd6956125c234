use Rattle.std.proofs.Common.{◌≡◌, ◌++◌, drop}
use Rattle.ca_sites.specs.SiteLists.{with_numbers}
use Rattle.ca_sites.proofs.site.numbered.Given as goal

abbrev pub invariant-shown : goal.invariant-shown
invariant-shown l = record {
  number : l.k ≡ l.one-index;
  list : l.sites.items ++ with_numbers l.k (drop l.one-index l.shown) ≡ with_numbers 0 l.shown;
}
