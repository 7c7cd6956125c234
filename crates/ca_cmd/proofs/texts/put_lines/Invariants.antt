use Rattle.std.proofs.Common.{◌≡◌, length}
use Rattle.ca_cmd.proofs.Putting.{IsPut}
use Rattle.ca_cmd.proofs.texts.put_lines.Given as goal

abbrev pub invariant-lines : goal.invariant-lines
invariant-lines g l = record {
  so_far : IsPut (g.O.Sink.written l.fn.out) (g.O.Sink.written l.out) l.text l.rest;
  passed : g.O.Sink.faults l.out ≡ g.O.Sink.faults l.fn.out;
}

abbrev pub decreases-lines : goal.decreases-lines
decreases-lines g l = length l.rest
