-- Graphs as contracts see them, and which nodes follow one another.
use Rattle.std.specs.Prelude.{◌≡◌, ◌<◌, ◌==◌, ℕ, Bool, true, false, List, [], ◌∷◌, map, length, get_or, count_by, Some, slice_get, ◌⊎◌}
use Rattle.ca_tree.specs.declared.numbers.ItemId.{ItemId}
use Rattle.ca_flow.specs.declared.instr.NodeId.{NodeId}
use Rattle.ca_flow.specs.declared.instr.Instr.{Instr}
use Rattle.ca_flow.specs.declared.instr.Instr.TheVariants as instr
use Rattle.ca_flow.specs.declared.instr.Links.{Links}
use Rattle.ca_flow.specs.declared.instr.Links.TheVariants as links
use Rattle.ca_flow.specs.declared.instr.Step.{Step}
use Rattle.ca_flow.specs.declared.links.Link.{Link}

-- a graph: its steps, where it begins, and how many registers a frame has; and the links between the items of its function,
-- with the first of these items, the lowest number among them, and how many numbers there are from it on
pub record ControlFlow : Type 0 where
  pub steps : List Step
  pub entry : NodeId
  pub registers : ℕ
  pub first : ItemId
  pub lowest : ℕ
  pub count : ℕ
  pub links : List Link

-- the nodes to which links lead
abbrev pub targets : Links → List NodeId
targets links.Nowhere = []
targets (links.One m) = m ∷ []
targets (links.Two one other) = one ∷ other ∷ []

abbrev pub successors : List Step → ℕ → List NodeId
successors g n = get_or (map (λ (s : Step). targets s.links) g) n []

-- how often a node stands in a list
abbrev pub times : NodeId → List NodeId → ℕ
times n ms = count_by (λ (m : NodeId). m.0 == n.0) ms

-- a `return` has no link, a branch has two, and every other instruction has one
abbrev pub link_count : Instr → ℕ
link_count (instr.Return a) = 0
link_count (instr.Branch a) = 2
link_count _ = 1

abbrev pub is_turn : Instr → Bool
is_turn instr.Turn = true
is_turn _ = false

-- in a graph of so many nodes, a link of node n leads to a lower node, but for a turn's
abbrev pub IsLink : ℕ → Instr → ℕ → NodeId → Type 0
IsLink size i n m = (m.0 < n) ⊎ ((is_turn i ≡ true) × (m.0 < size))

abbrev pub AreLinks : ℕ → Instr → ℕ → Links → Type 0
AreLinks size i n links.Nowhere = link_count i ≡ 0
AreLinks size i n (links.One m) = (link_count i ≡ 1) × IsLink size i n m
AreLinks size i n (links.Two one other) = (link_count i ≡ 2) × IsLink size i n one × IsLink size i n other

abbrev pub IsDrawn : List Step → Type 0
IsDrawn g = (n : ℕ) (at : Step) → slice_get g n ≡ Some at → AreLinks (length g) at.node.instr n at.links
