use Rattle.std.proofs.Common.{length, ◌+◌, ◌≤◌}
use Rattle.ca_phrases.proofs.Phrases.{AtStars}
use Rattle.ca_phrases.proofs.types.more_stars.Given as goal

abbrev pub invariant-stars : goal.invariant-stars
invariant-stars l = record {
  at : AtStars l.count l.before l.rest l.tokens;
  shorter : length l.rest ≤ length l.tokens;
  counts : l.count + length l.rest ≤ l.before + length l.tokens;
}

abbrev pub decreases-stars : goal.decreases-stars
decreases-stars l = length l.rest
