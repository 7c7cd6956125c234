use Rattle.std.proofs.Common.{◌≡◌, drop}
use Rattle.ca_lex.specs.Skipped.{after_front}
use Rattle.ca_lex.proofs.skipped.after_front.Given as goal

abbrev pub invariant-front : goal.invariant-front
invariant-front l = after_front (drop l.c-index l.front) l.rest ≡ after_front l.front l.text
