use Rattle.std.proofs.Common.{◌≤◌, ◌++◌, length}
use Rattle.ca_tree.specs.Counts.{nothing_yet}
use Rattle.ca_grammar.specs.DeclarationPlans.{totalled}
use Rattle.ca_grammar.specs.Goals.{Tops}
use Rattle.ca_grammar.specs.Reads.{plan}
use Rattle.ca_expressions.specs.Reading.{Onward}
use Rattle.ca_read.specs.Declaring.{totals_of, AreWithin}
use Rattle.ca_read.proofs.tops.tops.Given as goal

abbrev pub invariant-tops : goal.invariant-tops
invariant-tops l = record {
  at : Onward (Tops (totals_of l.totals)) (Tops nothing_yet) (λ m. totalled (l.all.items ++ m.what) m.totals) (plan (Tops nothing_yet)) l.rest l.tokens;
  shorter : length l.rest ≤ length l.tokens;
  within : AreWithin l.totals;
}

abbrev pub decreases-tops : goal.decreases-tops
decreases-tops l = length l.rest
