use Rattle.ca_lower.specs.GraphsSoFar.{AreSoFar}
use Rattle.ca_lower.proofs.lowering.lower.Given as goal

abbrev pub invariant-functions : goal.invariant-functions
invariant-functions l = AreSoFar l.checked.typed l.plan l.graphs.items l.f
