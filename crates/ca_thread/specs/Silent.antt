-- Silent steps along a graph.
use Rattle.std.specs.Prelude.{◌≡◌, ℕ, Bool, List, [], Some, slice_get}
use Rattle.ca_model.specs.declared.values.Value.{Value}
use Rattle.ca_model.specs.Asks.{Is}
use Rattle.ca_model.specs.Laws.{Stands}
use Rattle.ca_flow.specs.declared.instr.Step.{Step}
use Rattle.ca_flow.specs.Instructions.{node_run, toward}

module _ (g : List Step) where
  -- from a node with registers to another one, by instructions that ask for nothing
  pub data Silent : ℕ → List Value → ℕ → List Value → Type 0 where
    stays : {n : ℕ} {r : List Value} → Silent n r n r
    goes : {n n' m : ℕ} {r r' r'' : List Value} {b : Bool} (at : Step) → Silent n r n' r' → slice_get g n' ≡ Some at → node_run at.node r' [] ≡ Is (r'', b) [] → toward at.links b ≡ Some m → Silent n r m r''

  -- a node that asks for something or has no result, if it is one of the graph
  abbrev pub StopsAt : ℕ → List Value → Type 0
  StopsAt n r = (at : Step) → slice_get g n ≡ Some at → Stands (node_run at.node r [])
