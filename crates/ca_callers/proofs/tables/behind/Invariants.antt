use Rattle.std.proofs.Common.{◌≡◌, [], length, take, replicate}
use Rattle.ca_reach.specs.Reach.{rows_of}
use Rattle.ca_model.specs.declared.tree.Item.{Item}
use Rattle.ca_model.specs.declared.tree.Function.{Function}
use Rattle.ca_callers.specs.Callers.{AddsAll, AnyOf, InRow, item_number, IsBehindIn}
use Rattle.ca_callers.proofs.tables.behind.Given as goal

abbrev pub invariant-functions : goal.invariant-functions
invariant-functions l = record {
  long : length (rows_of l.rows.items) ≡ l.size;
  added : AddsAll (replicate l.size []) (rows_of l.rows.items) (AnyOf Function (take l.f l.code.source.functions) (λ f. InRow Item item_number (IsBehindIn l.code.source l.destroys f)));
}
