use Rattle.std.proofs.Common.{refl}
use Rattle.ca_grammar.specs.Reads.{takes, wants, misses, calls, fails, gives}
use Rattle.ca_read.proofs.DeclarationSteps.{valued_type}
use Rattle.ca_read.proofs.functions.parameter_type.Goals as goal

pub returns-in_default-clause-reads : goal.returns-in_default-clause-reads
returns-in_default-clause-reads c = λ j. valued_type j c.args.tokens.now c.valued.result c.in_default.ensures c.valued.ensures.reads

pub returns-in_default-mark-clause-reads : goal.returns-in_default-mark-clause-reads
returns-in_default-mark-clause-reads c = λ j. takes c.in-Some.ensures refl (misses c.in_default-mark.ensures)

pub returns-clause-reads : goal.returns-clause-reads
returns-clause-reads c = λ j. record {
  yes = λ a vs d. takes c.in-Some.ensures refl (wants c.in-Some-mark.ensures refl (calls d gives));
  no = λ r vs d. takes c.in-Some.ensures refl (wants c.in-Some-mark.ensures refl (fails d));
}
