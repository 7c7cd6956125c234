use Rattle.ca_thread.specs.Silent.{stays}
use Rattle.ca_thread.proofs.Falling.{silent_on}
use Rattle.ca_thread.proofs.silent.settle.Goals as goal

pub steps-init : goal.steps-init
steps-init c = stays

pub steps-preserved : goal.steps-preserved
steps-preserved c = silent_on _ _ _ _ _ _ _ c.steps.invariant c.in-Some.ensures.on.0
