use Rattle.std.proofs.Common.{◌≡◌, ◌++◌, ◌-◌, take, get_or}
use Rattle.std.specs.List.{flat_map}
use Rattle.ca_model.specs.typing.Programs.{first_place}
use Rattle.ca_plan.specs.SiteTables.{after_text}
use Rattle.ca_plan.proofs.lines.add_all_after.Given as goal

abbrev pub invariant-items : goal.invariant-items
invariant-items l = l.words.items ≡ l.fn.words.items ++ flat_map (λ i. after_text (get_or l.places (i.0 - 1) first_place)) (take l.item-index l.fn.items)
