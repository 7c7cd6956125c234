use Rattle.std.proofs.Common.{length}
use Rattle.ca_tree.specs.Lexed.{IsBare}
use Rattle.ca_lex.proofs.skipped.is_bare.Given as goal

-- the line is bare where the rest of it is
abbrev pub invariant-line : goal.invariant-line
invariant-line l = record { found : IsBare l.rest → IsBare l.text; needed : IsBare l.text → IsBare l.rest }

abbrev pub decreases-line : goal.decreases-line
decreases-line l = length l.rest
