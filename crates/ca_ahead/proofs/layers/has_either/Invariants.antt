use Rattle.std.proofs.Common.{take}
use Rattle.std.specs.Prelude.{Contains}
use Rattle.ca_tree.specs.declared.numbers.ItemId.{ItemId}
use Rattle.ca_ahead.specs.Onward.{IsEither}
use Rattle.ca_ahead.proofs.layers.has_either.Given as goal

abbrev pub invariant-items : goal.invariant-items
invariant-items l = (i : ItemId) × Contains (take l.item-index l.items) i × IsEither l.marked l.above i.0 → ⊥
