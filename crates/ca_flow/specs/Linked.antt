-- Links between items, by the numbers of the items.
use Rattle.std.specs.Prelude.{◌≡◌, List, map, Option, Some, None}
use Rattle.ca_tree.specs.declared.numbers.ItemId.{ItemId}
use Rattle.ca_model.specs.declared.tree.Item.{Item}
use Rattle.ca_model.specs.declared.tree.Stmt.{Stmt}
use Rattle.ca_model.specs.Destroying.{destroys}
use Rattle.ca_model.specs.Links.{Ways, Flow, flow, flows, block_first, block_links, after_act}
use Rattle.ca_flow.specs.declared.links.Link.{Link}

abbrev pub link_at : Item → ItemId → Link
link_at i to = record { from = i.id; to = to; destroys = destroys i.act }

abbrev pub linked : List (Item × Item) → List Link
linked = map (λ l. link_at l.0 l.1.id)

-- the items where control goes on have these numbers
abbrev pub AreWays : Ways → ItemId → ItemId → ItemId → Type 0
AreWays w next leave again = (w.next.id ≡ next) × (w.leave.id ≡ leave) × (w.again.id ≡ again)

abbrev pub first_of : Stmt → Ways → ItemId
first_of s w = ((flow s).first w).id

abbrev pub links_from : Stmt → Ways → List Link
links_from s w = linked ((flow s).links w)

abbrev pub first_of_all : List Stmt → Ways → ItemId
first_of_all ss w = (block_first (flows ss) w).id

abbrev pub links_from_all : List Stmt → Ways → List Link
links_from_all ss w = linked (block_links (flows ss) w)

abbrev pub act_links : Item → Ways → List Link
act_links i w = linked (after_act i.act i w)

abbrev pub flow_if_any : Option Stmt → Option Flow
flow_if_any None = None
flow_if_any (Some s) = Some (flow s)
