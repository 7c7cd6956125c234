use Rattle.ca_tree.specs.declared.numbers.ItemId.{ItemId}
use Rattle.ca_tree.specs.declared.numbers.FunId.{FunId}
use Rattle.ca_model.specs.declared.tree.Item.{Item}
use Rattle.ca_model.specs.declared.tree.Function.{Function}
use Rattle.ca_model.specs.Paths.{Before, PointAfter, PointAtEntry}
use Rattle.ca_callers.proofs.SitePoints.{item_there, of_site}
use Rattle.ca_callers.proofs.callers.points_of.Goals as goal

pub points-requires-clause-from : goal.points-requires-clause-from
points-requires-clause-from c =
    item_there c.args.code.now c.args.site c.site_at.result.0 c.site_at.result.1 c.site_at.ensures c.graph.result.now c.node.result.now c.graph.ensures.graph c.node.ensures c.in_ok-callers.callers c.in_ok-callers.ensures c.requires.site

pub returns-clause-items : goal.returns-clause-items
returns-clause-items c s at i fits =
    of_site c.args.code.now c.args.site c.site_at.result.0 c.site_at.result.1 c.site_at.ensures c.graph.result.now c.node.result.now c.graph.ensures.graph c.node.ensures
    Item ItemId (λ j. j.id) (λ p y j. Before p c.args.depth y j) c.in_ok-callers.callers c.in_ok-callers.ensures c.graph.ensures.lowered.formed s at c.in_ok-points.points.items i (c.in_ok-points.ensures.items i fits)

pub returns-clause-after : goal.returns-clause-after
returns-clause-after c s at i fits =
    of_site c.args.code.now c.args.site c.site_at.result.0 c.site_at.result.1 c.site_at.ensures c.graph.result.now c.node.result.now c.graph.ensures.graph c.node.ensures
    Item ItemId (λ j. j.id) (λ p y j. PointAfter p c.args.depth y j) c.in_ok-callers.callers c.in_ok-callers.ensures c.graph.ensures.lowered.formed s at c.in_ok-points.points.after i (c.in_ok-points.ensures.after i fits)

pub returns-clause-entries : goal.returns-clause-entries
returns-clause-entries c s at n fits =
    of_site c.args.code.now c.args.site c.site_at.result.0 c.site_at.result.1 c.site_at.ensures c.graph.result.now c.node.result.now c.graph.ensures.graph c.node.ensures
    Function FunId (λ f. f.id) (λ p y f. PointAtEntry p c.args.depth y f) c.in_ok-callers.callers c.in_ok-callers.ensures c.graph.ensures.lowered.formed s at c.in_ok-points.points.entries n (c.in_ok-points.ensures.entries n fits)
