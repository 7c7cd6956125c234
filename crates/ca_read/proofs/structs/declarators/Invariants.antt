use Rattle.std.proofs.Common.{◌≡◌, ◌+◌, ◌≤◌, ◌++◌, length}
use Rattle.ca_grammar.specs.Goals.{Field_declarators}
use Rattle.ca_grammar.specs.Reads.{plan}
use Rattle.ca_expressions.specs.Reading.{Onward}
use Rattle.ca_read.proofs.structs.declarators.Given as goal

abbrev pub invariant-declarators : goal.invariant-declarators
invariant-declarators l = record {
  at : Onward (Field_declarators l.base l.before) (Field_declarators l.base l.fn.before) (λ ds. l.all.items ++ ds) (plan (Field_declarators l.base l.fn.before)) l.rest l.tokens;
  shorter : length l.rest ≤ length l.tokens;
  count : l.before ≡ l.fn.before + length l.all.items;
  room : l.before ≤ 64;
}

abbrev pub decreases-declarators : goal.decreases-declarators
decreases-declarators l = length l.rest
