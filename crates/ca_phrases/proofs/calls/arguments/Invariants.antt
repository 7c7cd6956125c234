use Rattle.std.proofs.Common.{length, ◌<◌}
use Rattle.ca_phrases.proofs.Phrases.{AtArguments}
use Rattle.ca_phrases.proofs.calls.arguments.Given as goal

abbrev pub invariant-arguments : goal.invariant-arguments
invariant-arguments l = record {
  at : AtArguments l.all.items l.rest l.tokens;
  shorter : length l.rest < length l.tokens;
}

abbrev pub decreases-arguments : goal.decreases-arguments
decreases-arguments l = length l.rest
