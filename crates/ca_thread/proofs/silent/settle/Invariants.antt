use Rattle.ca_thread.specs.Silent.{Silent}
use Rattle.ca_thread.proofs.silent.settle.Given as goal

abbrev pub invariant-steps : goal.invariant-steps
invariant-steps l = Silent l.steps l.fn.node.0 l.fn.row l.now.0 l.row

abbrev pub decreases-steps : goal.decreases-steps
decreases-steps l = l.now.0
