use Rattle.std.proofs.Common.{◌≤◌, length}
use Rattle.ca_grammar.specs.Goals.{Qualified}
use Rattle.ca_grammar.specs.Reads.{plan}
use Rattle.ca_expressions.specs.Reading.{Onward}
use Rattle.ca_read.specs.Declaring.{totals_of}
use Rattle.ca_read.proofs.tops.qualified.Given as goal

abbrev pub invariant-qualifiers : goal.invariant-qualifiers
invariant-qualifiers l = record {
  at : Onward (Qualified (totals_of l.totals)) (Qualified (totals_of l.totals)) (λ a. a) (plan (Qualified (totals_of l.totals))) l.rest l.tokens;
  shorter : length l.rest ≤ length l.tokens;
}

abbrev pub decreases-qualifiers : goal.decreases-qualifiers
decreases-qualifiers l = length l.rest
