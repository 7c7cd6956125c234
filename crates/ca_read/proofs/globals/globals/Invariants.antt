use Rattle.std.proofs.Common.{◌≤◌, ◌++◌, length}
use Rattle.ca_tree.specs.declared.tree.Base.{Base}
use Rattle.ca_grammar.specs.DeclarationPlans.{totalled}
use Rattle.ca_grammar.specs.Goals.{Behind_global}
use Rattle.ca_grammar.specs.Reads.{plan}
use Rattle.ca_expressions.specs.Reading.{Onward}
use Rattle.ca_read.specs.Declaring.{totals_of, AreWithin}
use Rattle.ca_read.proofs.globals.globals.Given as goal

abbrev pub invariant-declarators : goal.invariant-declarators
invariant-declarators l = record {
  at : (b : Base) → Onward (Behind_global b l.stars l.name (totals_of l.totals)) (Behind_global b l.fn.stars l.fn.name (totals_of l.fn.totals)) (λ m. totalled (l.all.items ++ m.what) m.totals)
      (plan (Behind_global b l.fn.stars l.fn.name (totals_of l.fn.totals))) l.rest l.tokens;
  shorter : length l.rest ≤ length l.tokens;
  within : AreWithin l.totals;
}

abbrev pub decreases-declarators : goal.decreases-declarators
decreases-declarators l = length l.rest
