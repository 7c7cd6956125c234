use Rattle.std.proofs.Common.{◌≡◌, length}
use Rattle.ca_lex.specs.Skipped.{after_line_blanks}
use Rattle.ca_lex.proofs.skipped.behind_line_blanks.Given as goal

abbrev pub invariant-blanks : goal.invariant-blanks
invariant-blanks l = after_line_blanks l.rest ≡ after_line_blanks l.text

abbrev pub decreases-blanks : goal.decreases-blanks
decreases-blanks l = length l.rest
