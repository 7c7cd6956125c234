use Rattle.std.proofs.Common.{◌≡◌, map, take}
use Rattle.ca_callers.proofs.search.functions.Given as goal

abbrev pub invariant-items : goal.invariant-items
invariant-items l = map (λ f. f.0) l.functions.items ≡ map (λ i. i.0) (take l.item-index l.items)
