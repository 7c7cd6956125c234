use Rattle.std.proofs.Common.{◌≤◌, ◌++◌, length}
use Rattle.ca_grammar.specs.Goals.{Behind_type}
use Rattle.ca_grammar.specs.Reads.{plan}
use Rattle.ca_expressions.specs.Reading.{Onward}
use Rattle.ca_read.proofs.functions.behind_type.Given as goal

abbrev pub invariant-parameters : goal.invariant-parameters
invariant-parameters l = record {
  at : Onward (Behind_type l.of l.before) (Behind_type l.fn.of 0) (λ ds. l.all.items ++ ds) (plan (Behind_type l.fn.of 0)) l.rest l.tokens;
  shorter : length l.rest ≤ length l.tokens;
  room : l.before ≤ 16;
}

abbrev pub decreases-parameters : goal.decreases-parameters
decreases-parameters l = length l.rest
