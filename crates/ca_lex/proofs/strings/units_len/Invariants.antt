use Rattle.std.proofs.Common.{length}
use Rattle.ca_lex.proofs.Units.{Passed}
use Rattle.ca_lex.proofs.strings.units_len.Given as goal

abbrev pub invariant-units : goal.invariant-units
invariant-units l = Passed l.text l.rest

abbrev pub decreases-units : goal.decreases-units
decreases-units l = length l.rest
