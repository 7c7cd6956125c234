use Rattle.ca_tree.specs.declared.numbers.SiteId.{SiteId}
use Rattle.ca_tables.proofs.NumberTables.{TellsSoFar}
use Rattle.ca_tables.proofs.tables.table_of_sites.Given as goal

abbrev pub invariant-sites : goal.invariant-sites
invariant-sites l = TellsSoFar l.table.items (λ (site : SiteId). site.0) l.site-index l.sites
