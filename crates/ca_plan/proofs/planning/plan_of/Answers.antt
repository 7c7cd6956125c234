use Rattle.std.proofs.Common.{refl, subst, List}
use Rattle.ca_tree.specs.declared.numbers.ItemId.{ItemId}
use Rattle.ca_plan.specs.Planning.{options_of, ArePoints}
use Rattle.ca_plan.proofs.Assembling.{own_items, sites_there, before_items, assembled, read_items_of, read_acquiring, items_in}
use Rattle.ca_plan.proofs.Bounding.{items_read, points_read}
use Rattle.ca_plan.proofs.planning.plan_of.Goals as goal

pub items_of-requires : goal.items_of-requires
items_of-requires c = sites_there c.args.code.now.source (options_of c.args.options.now) c.in_ok-sites.sites.items c.in_ok-sites.ensures.taken c.deref.result.now c.deref.ensures.value

pub points-requires-clause-from : goal.points-requires-clause-from
points-requires-clause-from c =
    let p = c.args.code.now.source in
    items_read c.in_ok-callers.callers p c.in_ok-callers.ensures c.deref-2.result.now (items_in p c.in_ok-own.own.items c.deref-2.result.now c.deref-2.ensures.value
    (own_items p (options_of c.args.options.now) c.formed.ensures.formed c.in_ok-sites.sites.items c.in_ok-own.own.items c.in_ok-sites.ensures.taken (read_items_of p c.in_ok-sites.sites.items c.deref.result.now c.in_ok-own.own.items c.deref.ensures.value c.in_ok-own.ensures)))

pub acquiring-requires-clause-before : goal.acquiring-requires-clause-before
acquiring-requires-clause-before c =
    items_in c.args.code.now.source c.in_ok-found.found.items c.as_slice.result.now c.as_slice.ensures (before_items c.args.code.now.source c.args.options.now.depth c.deref-2.result.now c.in_ok-found.found (points_read c.in_ok-callers.callers c.args.code.now.source c.in_ok-callers.ensures c.args.options.now.depth c.deref-2.result.now c.in_ok-found.found c.in_ok-found.ensures.points))

pub acquiring-requires-clause-own : goal.acquiring-requires-clause-own
acquiring-requires-clause-own c =
    let p = c.args.code.now.source in
    items_in p c.in_ok-own.own.items c.deref-3.result.now c.deref-3.ensures.value
    (own_items p (options_of c.args.options.now) c.formed.ensures.formed c.in_ok-sites.sites.items c.in_ok-own.own.items c.in_ok-sites.ensures.taken (read_items_of p c.in_ok-sites.sites.items c.deref.result.now c.in_ok-own.own.items c.deref.ensures.value c.in_ok-own.ensures))

pub returns : goal.returns
returns c =
    let p = c.args.code.now.source in
    let found = c.in_ok-found.found in
    let own = c.in_ok-own.own.items in
    let points = subst (λ (l : List ItemId). ArePoints p c.args.options.now.depth l found) c.deref-2.ensures.value (points_read c.in_ok-callers.callers p c.in_ok-callers.ensures c.args.options.now.depth c.deref-2.result.now found c.in_ok-found.ensures.points) in
    assembled p (options_of c.args.options.now) c.formed.ensures.formed c.in_ok-sites.sites.items own c.in_ok-sites.ensures.taken (read_items_of p c.in_ok-sites.sites.items c.deref.result.now own c.deref.ensures.value c.in_ok-own.ensures)
    c.formed.ensures.bounded found points c.in_ok-acquires.acquires.items
    (read_acquiring p found.items c.as_slice.result.now own c.deref-3.result.now c.in_ok-acquires.acquires.items c.as_slice.ensures c.deref-3.ensures.value c.in_ok-acquires.ensures.items)
    _ refl refl refl c.from_vec.ensures c.from_vec-2.ensures c.requires.limit c.in_ok-sites.ensures.ascend c.in_ok-acquires.ensures.ascend
