use Rattle.std.proofs.Common.{◌≡◌, length, take}
use Rattle.ca_reach.specs.Reach.{rows_of}
use Rattle.ca_flow.specs.declared.links.Link.{Link}
use Rattle.ca_callers.specs.Callers.{AddsAll, AnyOf, IsLinked}
use Rattle.ca_callers.proofs.tables.add_links.Given as goal

abbrev pub invariant-links : goal.invariant-links
invariant-links l = record {
  long : length (rows_of l.rows.items) ≡ length (rows_of l.fn.rows.items);
  added : AddsAll (rows_of l.fn.rows.items) (rows_of l.rows.items) (AnyOf Link (take l.link-index l.links) (IsLinked l.destroys));
}
