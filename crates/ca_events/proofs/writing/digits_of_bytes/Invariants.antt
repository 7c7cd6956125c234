use Rattle.std.proofs.Common.{◌≡◌, ◌++◌, drop, string_bytes}
use Rattle.ca_model.specs.Traces.{hex_digits}
use Rattle.ca_events.proofs.writing.digits_of_bytes.Given as goal

abbrev pub invariant-bytes : goal.invariant-bytes
invariant-bytes l = string_bytes l.text ++ hex_digits (drop l.byte-index l.bytes) ≡ hex_digits l.bytes
