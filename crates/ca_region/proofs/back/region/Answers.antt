use Rattle.std.proofs.Common.{◌≡◌, ◌-◌, ◌<◌, List, Bool, true, sym, ◌∙◌, subst}
use Rattle.std.specs.Prelude.{Contains, ◌↔◌}
use Rattle.ca_tree.specs.declared.numbers.ItemId.{ItemId}
use Rattle.ca_reach.specs.Reach.{rows_of}
use Rattle.ca_reach.proofs.Searched.{rows_length}
use Rattle.ca_model.specs.declared.tree.Item.{Item}
use Rattle.ca_model.specs.Paths.{Before, PointAfter}
use Rattle.ca_region.specs.Regions.{IsAt}
use Rattle.ca_region.proofs.Behind.{flags_of, behind_listed, ends_listed, entry_exact}
use Rattle.ca_region.proofs.ReadGraphs.{table_of, ends_of, listed_of, place_of}
use Rattle.ca_region.proofs.back.region.Goals as goal

pub returns-clause-items : goal.returns-clause-items
returns-clause-items c p f s is os from =
    let g = c.args.graph.now in
    let vs = c.in_ok-rows.rows.items in
    let lowest = c.lowest-lowest.result in
    let count = c.count-count.result in
    let links = c.links-links.result.now in
    let table = table_of g lowest count links c.links-links.ensures c.lowest-lowest.ensures c.count-count.ensures (rows_of vs) c.in_ok-rows.ensures.exact in
    let long = rows_length vs ∙ (c.in_ok-rows.ensures.length ∙ c.count-count.ensures) in
    let begin = place_of g lowest count links c.links-links.ensures c.lowest-lowest.ensures c.count-count.ensures c.saturating_sub-start.result c.args.from s.id c.saturating_sub-start.ensures (sym from) in
    let exact = flags_of vs c.deref.result.now c.deref-2.result.now c.in_ok-flags.flags.items c.row.result.now c.saturating_sub-start.result (s.id.0 - g.lowest) c.deref.ensures.value c.deref-2.ensures.value c.row.ensures begin c.in_ok-flags.ensures.exact in
    let listed = listed_of g lowest count links c.links-links.ensures c.lowest-lowest.ensures c.count-count.ensures c.in_ok-flags.flags.items c.deref-4.result.now c.in_ok-items.items.items c.deref-4.ensures.value c.in_ok-items.ensures.exact in
    subst (λ r. (i : ItemId) → i.0 < 4294967296 → Contains r i ↔ ((j : Item) × (j.id ≡ i) × Before p 0 s j)) (sym c.from_vec.ensures)
    (behind_listed p f g is (rows_of vs) table long s os c.in_ok-flags.flags.items exact c.in_ok-items.items.items listed)

pub returns-clause-after : goal.returns-clause-after
returns-clause-after c p f s is os from =
    let g = c.args.graph.now in
    let vs = c.in_ok-rows.rows.items in
    let lowest = c.lowest-lowest.result in
    let count = c.count-count.result in
    let links = c.links-links.result.now in
    let table = table_of g lowest count links c.links-links.ensures c.lowest-lowest.ensures c.count-count.ensures (rows_of vs) c.in_ok-rows.ensures.exact in
    let long = rows_length vs ∙ (c.in_ok-rows.ensures.length ∙ c.count-count.ensures) in
    let begin = place_of g lowest count links c.links-links.ensures c.lowest-lowest.ensures c.count-count.ensures c.saturating_sub-start.result c.args.from s.id c.saturating_sub-start.ensures (sym from) in
    let exact = flags_of vs c.deref.result.now c.deref-2.result.now c.in_ok-flags.flags.items c.row.result.now c.saturating_sub-start.result (s.id.0 - g.lowest) c.deref.ensures.value c.deref-2.ensures.value c.row.ensures begin c.in_ok-flags.ensures.exact in
    let listed = listed_of g lowest count links c.links-links.ensures c.lowest-lowest.ensures c.count-count.ensures c.in_ok-set.set.items c.deref-5.result.now c.in_ok-after.after.items c.deref-5.ensures.value c.in_ok-after.ensures.exact in
    let ends = ends_of g lowest count links c.links-links.ensures c.lowest-lowest.ensures c.count-count.ensures c.saturating_sub-start.result c.in_ok-flags.flags.items c.deref-3.result.now c.in_ok-set.set.items c.deref-3.ensures.value c.in_ok-set.ensures.exact in
    subst (λ r. (i : ItemId) → i.0 < 4294967296 → Contains r i ↔ ((j : Item) × (j.id ≡ i) × PointAfter p 0 s j)) (sym c.from_vec-2.ensures)
    (ends_listed p f g is (rows_of vs) table long s os c.in_ok-flags.flags.items exact c.saturating_sub-start.result c.in_ok-set.set.items c.in_ok-after.after.items begin ends listed)

pub returns-clause-entry : goal.returns-clause-entry
returns-clause-entry c p f s is os from =
    let g = c.args.graph.now in
    let vs = c.in_ok-rows.rows.items in
    let lowest = c.lowest-lowest.result in
    let count = c.count-count.result in
    let links = c.links-links.result.now in
    let table = table_of g lowest count links c.links-links.ensures c.lowest-lowest.ensures c.count-count.ensures (rows_of vs) c.in_ok-rows.ensures.exact in
    let long = rows_length vs ∙ (c.in_ok-rows.ensures.length ∙ c.count-count.ensures) in
    let begin = place_of g lowest count links c.links-links.ensures c.lowest-lowest.ensures c.count-count.ensures c.saturating_sub-start.result c.args.from s.id c.saturating_sub-start.ensures (sym from) in
    let exact = flags_of vs c.deref.result.now c.deref-2.result.now c.in_ok-flags.flags.items c.row.result.now c.saturating_sub-start.result (s.id.0 - g.lowest) c.deref.ensures.value c.deref-2.ensures.value c.row.ensures begin c.in_ok-flags.ensures.exact in
    let first = place_of g lowest count links c.links-links.ensures c.lowest-lowest.ensures c.count-count.ensures c.saturating_sub.result c.first-first.result _ c.saturating_sub.ensures (c.first-first.ensures ∙ is.starts) in
    let e = entry_exact p f g is (rows_of vs) table long s os c.in_ok-flags.flags.items exact c.saturating_sub-start.result c.saturating_sub.result begin first in
    let here = subst (λ (flags : List Bool). (c.is_at-reaches_entry.result ≡ true) ↔ IsAt c.saturating_sub-start.result flags c.saturating_sub.result) c.deref-6.ensures.value c.is_at-reaches_entry.ensures in
    ((λ t. e.0 (here.0 t)), (λ on. here.1 (e.1 on)))
