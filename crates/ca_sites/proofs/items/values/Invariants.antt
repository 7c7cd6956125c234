use Rattle.std.proofs.Common.{◌≡◌, ◌++◌, drop}
use Rattle.ca_sites.specs.TextSites.{values_places, loads}
use Rattle.ca_sites.proofs.items.values.Given as goal

abbrev pub invariant-each : goal.invariant-each
invariant-each l = l.sites.items ++ loads l.fn.item (values_places (drop l.e-index l.fn.es)) ≡ l.fn.sites.items ++ loads l.fn.item (values_places l.fn.es)
