use Rattle.std.proofs.Common.{◌≡◌, ◌<◌, ◌≤◌, ℕ, Some}
use Rattle.std.specs.Prelude.{slice_get, ◌⊎◌}
use Rattle.ca_tree.specs.declared.numbers.SiteId.{SiteId}
use Rattle.ca_flow.specs.Graphs.{ControlFlow}
use Rattle.ca_flow.specs.Lowerings.{HasSite}
use Rattle.ca_flow.specs.Places.{HasSiteInOne}
use Rattle.ca_flow.proofs.places.last_site.Given as goal

abbrev pub invariant-graphs : goal.invariant-graphs
invariant-graphs l = record {
  all : (k : ℕ) (g : ControlFlow) (s : SiteId) → k < l.graph-index → slice_get l.graphs k ≡ Some g → HasSite g.steps s → s.0 ≤ l.last;
  one : (l.last ≡ 0) ⊎ HasSiteInOne l.graphs (record { 0 = l.last });
}
