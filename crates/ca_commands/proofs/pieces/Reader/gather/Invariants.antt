use Rattle.std.proofs.Common.{◌≡◌, drop, map, string_bytes}
use Rattle.ca_commands.specs.Gathering.{gathered}
use Rattle.ca_commands.proofs.pieces.Reader.gather.Given as goal

abbrev pub invariant-words : goal.invariant-words
invariant-words l = gathered l.self (map string_bytes (drop l.word-index l.words)) ≡ gathered l.fn.self (map string_bytes l.words)
