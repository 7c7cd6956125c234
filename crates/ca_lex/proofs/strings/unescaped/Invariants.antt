use Rattle.std.proofs.Common.{length}
use Rattle.ca_lex.proofs.Units.{Taken}
use Rattle.ca_lex.proofs.strings.unescaped.Given as goal

abbrev pub invariant-units : goal.invariant-units
invariant-units l = Taken l.units l.rest l.bytes.items

abbrev pub decreases-units : goal.decreases-units
decreases-units l = length l.rest
