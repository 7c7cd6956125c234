use Rattle.std.proofs.Common.{drop}
use Rattle.ca_model.specs.typing.Uses.{each_faults}
use Rattle.ca_bodies.proofs.Arguments.{SoFar}
use Rattle.ca_bodies.proofs.calls.each_in.Given as goal

abbrev pub invariant-loop-exp : goal.invariant-loop-exp
invariant-loop-exp l = SoFar l.scope l.exps (λ i. each_faults l.scope l.fn.of (drop i l.exps)) l.fn.faults.first l.exp-index l.values.items l.faults.first
