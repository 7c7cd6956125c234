use Rattle.ca_tree.specs.declared.numbers.ItemId.{ItemId}
use Rattle.ca_tables.proofs.NumberTables.{TellsSoFar}
use Rattle.ca_tables.proofs.tables.table_of_items.Given as goal

abbrev pub invariant-items : goal.invariant-items
invariant-items l = TellsSoFar l.table.items (λ (item : ItemId). item.0) l.item-index l.items
