use Rattle.ca_types.proofs.Twice.{Seen}
use Rattle.ca_types.proofs.structs.note_twice.Given as goal

abbrev pub invariant-loop-index : goal.invariant-loop-index
invariant-loop-index l = Seen l.names l.fn.faults.first l.index l.faults.first
