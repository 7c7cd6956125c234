use Rattle.std.proofs.Common.{◌≡◌, ◌++◌, map, drop}
use Rattle.ca_model.specs.Sites.{all_items}
use Rattle.ca_plan.proofs.places.item_places.Given as goal

abbrev pub invariant-loop-number : goal.invariant-loop-number
invariant-loop-number l = l.places.items ++ map (λ i. i.pos) (all_items (drop l.number l.checked.typed.functions)) ≡ map (λ i. i.pos) (all_items l.checked.typed.functions)
