use Rattle.std.proofs.Common.{length}
use Rattle.ca_traces.proofs.Bytes.{Paired}
use Rattle.ca_traces.proofs.lists.hex_bytes.Given as goal

abbrev pub invariant-pairs : goal.invariant-pairs
invariant-pairs l = Paired l.digits l.bytes.items l.rest

abbrev pub decreases-pairs : goal.decreases-pairs
decreases-pairs l = length l.rest
