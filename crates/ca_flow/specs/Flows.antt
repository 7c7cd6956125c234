-- The links of a graph between items are those of its function.
use Rattle.std.specs.Prelude.{◌≡◌, ◌<◌, ◌≤◌, ◌+◌, Contains}
use Rattle.ca_model.specs.declared.tree.Item.{Item}
use Rattle.ca_model.specs.declared.tree.Function.{Function}
use Rattle.ca_model.specs.Codes.{Typed}
use Rattle.ca_model.specs.WellFormed.{IsWellFormed}
use Rattle.ca_model.specs.Sites.{items_of}
use Rattle.ca_model.specs.Links.{Next, first_item}
use Rattle.ca_flow.specs.declared.links.Link.{Link}
use Rattle.ca_flow.specs.Linked.{link_at}
use Rattle.ca_flow.specs.Graphs.{ControlFlow}

pub record IsFlowOf (p : Typed) (f : Function) (g : ControlFlow) : Type 0 where
  pub formed : IsWellFormed p
  pub own : Contains p.functions f
  pub starts : g.first ≡ (first_item f).id
  pub within : (i : Item) → Contains (items_of f) i → (g.lowest ≤ i.id.0) × (i.id.0 < g.lowest + g.count)
  pub there : (i j : Item) → Contains (items_of f) j → Next p i j → Contains (items_of f) i × Contains g.links (link_at i j.id)
  pub only : (l : Link) → Contains g.links l → (i j : Item) × Contains (items_of f) i × Contains (items_of f) j × Next p i j × (l ≡ link_at i j.id)
