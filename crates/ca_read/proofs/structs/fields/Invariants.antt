use Rattle.std.proofs.Common.{◌≤◌, ◌++◌, length}
use Rattle.ca_grammar.specs.Goals.{A_field}
use Rattle.ca_grammar.specs.Reads.{plan}
use Rattle.ca_expressions.specs.Reading.{Onward}
use Rattle.ca_read.proofs.structs.fields.Given as goal

abbrev pub invariant-fields : goal.invariant-fields
invariant-fields l = record {
  at : Onward (A_field l.before) (A_field 0) (λ fs. l.all.items ++ fs) (plan (A_field 0)) l.rest l.tokens;
  shorter : length l.rest ≤ length l.tokens;
  room : l.before ≤ 64;
}

abbrev pub decreases-fields : goal.decreases-fields
decreases-fields l = length l.rest
