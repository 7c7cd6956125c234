use Rattle.std.proofs.Common.{drop}
use Rattle.ca_model.specs.typing.Calls.{parameters_of}
use Rattle.ca_model.specs.typing.Uses.{argument_faults}
use Rattle.ca_bodies.specs.Shown.{shown_called}
use Rattle.ca_bodies.proofs.Arguments.{SoFar}
use Rattle.ca_bodies.proofs.calls.arguments.Given as goal

abbrev pub invariant-loop-index : goal.invariant-loop-index
invariant-loop-index l = SoFar l.scope l.exps (λ i. argument_faults l.scope (drop i (parameters_of (shown_called l.fn.of))) (drop i l.exps)) l.fn.faults.first l.index l.values.items l.faults.first
