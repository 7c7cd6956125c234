use Rattle.std.proofs.Common.{◌≡◌, drop}
use Rattle.ca_grammar.specs.Limits.{the_limits}
use Rattle.ca_grammar.specs.Reads.{first_exceeded}
use Rattle.ca_expressions.proofs.limits.first_exceeded.Given as goal

abbrev pub invariant-loop-count : goal.invariant-loop-count
invariant-loop-count l = first_exceeded the_limits (drop l.count-index l.counts) ≡ first_exceeded the_limits l.counts
