-- The graphs of the first functions of a source.
use Rattle.std.specs.Prelude.{◌≡◌, ℕ, List, length, Some, slice_get}
use Rattle.ca_model.specs.declared.plan.Plan.{Plan}
use Rattle.ca_model.specs.declared.tree.Function.{Function}
use Rattle.ca_model.specs.Codes.{Typed}
use Rattle.ca_flow.specs.Graphs.{ControlFlow}
use Rattle.ca_flow.specs.Lowerings.{IsGraphUnder}

pub record AreSoFar (p : Typed) (plan : Plan) (graphs : List ControlFlow) (n : ℕ) : Type 0 where
  pub count : length graphs ≡ n
  pub each : (k : ℕ) (f : Function) (g : ControlFlow) → slice_get p.functions k ≡ Some f → slice_get graphs k ≡ Some g → IsGraphUnder p plan f g
