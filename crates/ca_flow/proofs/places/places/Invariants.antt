use Rattle.std.proofs.Common.{◌≡◌, ◌<◌, ◌+◌, ℕ, Some, length}
use Rattle.std.specs.Prelude.{slice_get, get_or}
use Rattle.ca_flow.specs.Graphs.{ControlFlow}
use Rattle.ca_flow.specs.Lowerings.{HasSite}
use Rattle.ca_flow.specs.Places.{no_place, IsPlaceInOne}
use Rattle.ca_flow.proofs.places.places.Given as goal

abbrev pub invariant-graphs : goal.invariant-graphs
invariant-graphs l = record {
  number : l.function ≡ l.graph-index;
  count : length l.places.items ≡ l.sites;
  placed : (k j : ℕ) (g : ControlFlow) → k < l.sites → j < l.graph-index → slice_get l.graphs j ≡ Some g → HasSite g.steps (record { 0 = k + 1 }) → IsPlaceInOne l.graphs (record { 0 = k + 1 }) (get_or l.places.items k no_place);
}
