use Rattle.std.proofs.Common.{◌≡◌, ◌+◌, ◌<◌, ◌^◌, length, drop}
use Rattle.ca_tree.specs.Places.{after}
use Rattle.ca_lex.proofs.places.place_after.Given as goal

abbrev pub invariant-bytes : goal.invariant-bytes
invariant-bytes l = record {
  whole : after l.now (drop l.byte-index l.bytes) ≡ after l.fn.place l.bytes;
  line : l.now.line + length l.bytes < 2 ^ 32 + l.byte-index;
  column : l.now.column + length l.bytes < 2 ^ 32 + l.byte-index;
}
