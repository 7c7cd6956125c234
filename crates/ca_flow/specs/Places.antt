-- Where sites stand in graphs.
use Rattle.std.specs.Prelude.{◌≡◌, ℕ, List, Some, slice_get}
use Rattle.ca_tree.specs.declared.numbers.FunId.{FunId}
use Rattle.ca_tree.specs.declared.numbers.SiteId.{SiteId}
use Rattle.ca_flow.specs.declared.instr.AtSite.{AtSite}
use Rattle.ca_flow.specs.declared.instr.NodeId.{NodeId}
use Rattle.ca_flow.specs.declared.instr.Step.{Step}
use Rattle.ca_flow.specs.Graphs.{ControlFlow}
use Rattle.ca_flow.specs.Lowerings.{site_in, HasSite}

abbrev pub no_place : FunId × NodeId
no_place = (record { 0 = 0 }, record { 0 = 0 })

-- a node of a function's graph with a site
abbrev pub IsPlace : FunId → List Step → SiteId → FunId × NodeId → Type 0
IsPlace f g s place = (place.0 ≡ f) × (at : Step) × (a : AtSite) × (slice_get g place.1.0 ≡ Some at) × (site_in at.node.instr ≡ Some a) × (a.site ≡ s)

-- in one of some graphs, which are those of functions 0, 1 and so on
abbrev pub HasSiteInOne : List ControlFlow → SiteId → Type 0
HasSiteInOne gs s = (k : ℕ) × (g : ControlFlow) × (slice_get gs k ≡ Some g) × HasSite g.steps s

abbrev pub IsPlaceInOne : List ControlFlow → SiteId → FunId × NodeId → Type 0
IsPlaceInOne gs s place = (k : ℕ) × (g : ControlFlow) × (slice_get gs k ≡ Some g) × IsPlace (record { 0 = k }) g.steps s place
