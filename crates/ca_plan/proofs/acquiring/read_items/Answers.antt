use Rattle.std.proofs.Common.{arith, refl}
use Rattle.ca_tree.specs.declared.numbers.ItemId.{ItemId}
use Rattle.ca_plan.proofs.Setting.{none_fits, fits_more, all_fit}
use Rattle.ca_plan.proofs.acquiring.read_items.Goals as goal

pub items-init : goal.items-init
items-init c = none_fits ItemId (λ i. i.0)

pub items-preserved : goal.items-preserved
items-preserved c = fits_more ItemId (λ i. i.0) c.args.items.now c.items.item-index _ _ c.items-test.true refl c.read_item.ensures c.items.invariant

pub returns : goal.returns
returns c = all_fit ItemId (λ i. i.0) c.args.items.now c.items.item-index (omega (arith, c.items-test.false)) c.items.invariant
