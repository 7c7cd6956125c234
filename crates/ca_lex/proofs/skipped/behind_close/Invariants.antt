use Rattle.std.proofs.Common.{◌≡◌, length}
use Rattle.ca_tree.specs.Lexed.{after_close}
use Rattle.ca_lex.proofs.skipped.behind_close.Given as goal

abbrev pub invariant-bytes : goal.invariant-bytes
invariant-bytes l = after_close l.rest ≡ after_close l.text

abbrev pub decreases-bytes : goal.decreases-bytes
decreases-bytes l = length l.rest
