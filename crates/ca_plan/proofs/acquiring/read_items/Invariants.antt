use Rattle.std.proofs.Common.{take}
use Rattle.ca_tree.specs.declared.numbers.ItemId.{ItemId}
use Rattle.ca_plan.proofs.Setting.{Fit}
use Rattle.ca_plan.proofs.acquiring.read_items.Given as goal

abbrev pub invariant-items : goal.invariant-items
invariant-items l = Fit ItemId (λ i. i.0) (take l.item-index l.fn.items)
