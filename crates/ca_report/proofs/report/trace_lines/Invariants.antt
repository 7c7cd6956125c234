use Rattle.std.proofs.Common.{◌≡◌, ◌∷◌, ◌++◌, map, take, length, string_bytes, codes}
use Rattle.std.specs.Fmt.{decimal}
use Rattle.ca_model.specs.Traces.{event_line, line_end}
use Rattle.ca_report.proofs.report.trace_lines.Given as goal

abbrev pub invariant-events : goal.invariant-events
invariant-events l = map string_bytes l.lines.items ≡ (codes "trace " ++ (decimal (length l.events) ++ line_end)) ∷ map event_line (take l.event-index l.events)
