use Rattle.std.proofs.Common.{drop}
use Rattle.ca_types.specs.Knows.{Onward}
use Rattle.ca_types.proofs.tops.all_known.Given as goal

abbrev pub invariant-loop-top : goal.invariant-loop-top
invariant-loop-top l = Onward l.program (drop l.top-index l.program.tops) l.known
