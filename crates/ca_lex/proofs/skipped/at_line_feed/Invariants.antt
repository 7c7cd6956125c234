use Rattle.std.proofs.Common.{◌≡◌, length}
use Rattle.ca_tree.specs.Lexed.{from_line_feed}
use Rattle.ca_lex.proofs.skipped.at_line_feed.Given as goal

abbrev pub invariant-bytes : goal.invariant-bytes
invariant-bytes l = from_line_feed l.rest ≡ from_line_feed l.text

abbrev pub decreases-bytes : goal.decreases-bytes
decreases-bytes l = length l.rest
