use Rattle.std.proofs.Common.{length}
use Rattle.ca_traces.proofs.Things.{Listing}
use Rattle.ca_traces.proofs.lists.gives.Given as goal

abbrev pub invariant-things : goal.invariant-things
invariant-things l = Listing l.words l.gives.items l.rest

abbrev pub decreases-things : goal.decreases-things
decreases-things l = length l.rest
