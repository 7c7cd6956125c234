use Rattle.std.proofs.Common.{◌≡◌, length}
use Rattle.ca_traces.specs.Readings.{Begins}
use Rattle.ca_traces.proofs.reading.read.Given as goal

abbrev pub invariant-entries : goal.invariant-entries
invariant-entries l = Begins l.text l.count l.events.items l.rest × (length l.events.items ≡ l.k)
