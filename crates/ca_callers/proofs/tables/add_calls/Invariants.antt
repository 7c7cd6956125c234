use Rattle.std.proofs.Common.{◌≡◌, length, take}
use Rattle.ca_tree.specs.declared.numbers.ItemId.{ItemId}
use Rattle.ca_reach.specs.Reach.{rows_of}
use Rattle.ca_callers.specs.Callers.{AddsAll, AnyOf}
use Rattle.ca_callers.proofs.tables.add_calls.Given as goal

abbrev pub invariant-calls : goal.invariant-calls
invariant-calls l = record {
  long : length (rows_of l.rows.items) ≡ length (rows_of l.fn.rows.items);
  added : AddsAll (rows_of l.fn.rows.items) (rows_of l.rows.items) (AnyOf ItemId (take l.call-index l.calls) (λ i k x. (k ≡ l.first) × (x ≡ i.0)));
}
