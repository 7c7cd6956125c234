use Rattle.std.proofs.Common.{◌≡◌, ◌++◌, ◌∷◌, map, drop, length, string_bytes, codes}
use Rattle.std.specs.Fmt.{decimal}
use Rattle.std.specs.List.{flat_map}
use Rattle.ca_model.specs.Traces.{event_line, line_end, trace_lines}
use Rattle.ca_events.proofs.writing.write_trace.Given as goal

abbrev pub invariant-events : goal.invariant-events
invariant-events l = string_bytes l.text ++ flat_map (λ line. line) (map event_line (drop l.event-index l.events)) ≡ flat_map (λ line. line) (trace_lines l.events)
