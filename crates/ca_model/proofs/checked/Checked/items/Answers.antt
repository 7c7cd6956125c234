use Rattle.std.proofs.Common.{◌≡◌, Some, length, slice_get, ◌-◌, ap, ◌∙◌, rules}
use Rattle.ca_model.specs.Sites.{all_items}
use Rattle.ca_model.specs.typing.Sources.{Source}
use Rattle.ca_model.proofs.TypedCounts.{typing_is_counted}
use Rattle.ca_model.proofs.checked.Checked.items.Goals as goal

pub returns-in-Some : goal.returns-in-Some
returns-in-Some c =
    let at : slice_get c.self.inside.functions.items (length c.self.inside.functions.items - 1) ≡ Some c.in-Some.last.now = search rules in
    (typing_is_counted c.self.invariant.program c.self.invariant.typing).last_item c.in-Some.last.now at ∙ ap (λ (x : Source). length (all_items x.typed.functions)) c.self.view_is
