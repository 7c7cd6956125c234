use Rattle.std.proofs.Common.{refl}
use Rattle.ca_grammar.specs.Reads.{takes, passes, wants, misses}
use Rattle.ca_read.proofs.globals.initializer.Goals as goal

pub returns-in_default-clause-reads : goal.returns-in_default-clause-reads
returns-in_default-clause-reads c = λ g k o d. passes c.in_default.ensures d

pub returns-in_default-word-clause-reads : goal.returns-in_default-word-clause-reads
returns-in_default-word-clause-reads c = λ g k. takes c.in-Some.ensures refl (misses c.in_default-word.ensures)

pub returns-clause-reads : goal.returns-clause-reads
returns-clause-reads c = λ g k o d. takes c.in-Some.ensures refl (wants c.in-Some-word.ensures refl d)
