use Rattle.std.proofs.Common.{◌≡◌, map, take}
use Rattle.ca_callers.proofs.search.numbers.Given as goal

abbrev pub invariant-items : goal.invariant-items
invariant-items l = l.numbers.items ≡ map (λ i. i.0) (take l.item-index l.items)
