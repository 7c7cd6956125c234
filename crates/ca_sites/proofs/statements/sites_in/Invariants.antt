use Rattle.std.proofs.Common.{◌≡◌, ◌++◌, drop}
use Rattle.ca_sites.specs.TextSites.{tops_sites, text_sites}
use Rattle.ca_sites.proofs.statements.sites_in.Given as goal

abbrev pub invariant-tops : goal.invariant-tops
invariant-tops l = l.sites.items ++ tops_sites (drop l.of-index l.program.tops) ≡ text_sites l.program
