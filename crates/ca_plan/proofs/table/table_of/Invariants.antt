use Rattle.std.proofs.Common.{length}
use Rattle.ca_plan.specs.Planning.{options_of}
use Rattle.ca_plan.specs.Finding.{IsKnownIfAny}
use Rattle.ca_plan.proofs.TableRows.{RowsTo}
use Rattle.ca_plan.proofs.table.table_of.Given as goal

abbrev pub invariant-sites : goal.invariant-sites
invariant-sites l = record {
  known : IsKnownIfAny l.checked l.options.depth l.known;
  rows : RowsTo l.checked (options_of l.options) (length l.site-items) l.site-index l.text.items;
}
