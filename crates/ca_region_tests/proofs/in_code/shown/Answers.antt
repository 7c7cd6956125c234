use Rattle.std.proofs.Common.{◌≡◌, length, ap, arith}
use Rattle.ca_model.specs.Codes.{Typed}
use Rattle.ca_model.specs.Sites.{all_items}
use Rattle.ca_region_tests.proofs.NumberedItems.{item_there}
use Rattle.ca_region_tests.proofs.in_code.shown.Goals as goal

pub region_in-requires : goal.region_in-requires
region_in-requires c =
    let count : c.items-items.result ≡ length (all_items c.in-Ok.checked.typed.functions) = c.items-items.ensures in
    let same : length (all_items c.in-Ok-lower.code.source.functions) ≡ length (all_items c.in-Ok.checked.typed.functions) = ap (λ (p : Typed). length (all_items p.functions)) c.in-Ok-lower.ensures.source in
    item_there c.in-Ok-lower.code.source c.args.item c.graphs-graphs.ensures.lowered.formed (omega (arith, c.if-item-eq0.false)) (omega (arith, c.if-item-items.false, count, same))
