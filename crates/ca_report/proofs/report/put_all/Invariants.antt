use Rattle.std.proofs.Common.{◌≡◌, take, string_bytes}
use Rattle.std.specs.List.{flat_map}
use Rattle.std.specs.Io.KnownBytes.{Appends}
use Rattle.ca_report.proofs.report.put_all.Given as goal

abbrev pub invariant-lines : goal.invariant-lines
invariant-lines g l = record {
  whole : Appends (g.O.Sink.written l.fn.out) (g.O.Sink.written l.out) (flat_map string_bytes (take l.text-index l.lines));
  passed : g.O.Sink.faults l.out ≡ g.O.Sink.faults l.fn.out;
}
