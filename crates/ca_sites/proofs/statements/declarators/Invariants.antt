use Rattle.std.proofs.Common.{◌≡◌, ◌++◌, drop}
use Rattle.ca_sites.specs.TextSites.{declarators_sites}
use Rattle.ca_sites.proofs.statements.declarators.Given as goal

abbrev pub invariant-each : goal.invariant-each
invariant-each l = l.sites.items ++ declarators_sites (drop l.d-index l.fn.ds) ≡ l.fn.sites.items ++ declarators_sites l.fn.ds
