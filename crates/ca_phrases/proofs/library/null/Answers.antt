use Rattle.std.proofs.Common.{refl}
use Rattle.ca_grammar.specs.Reads.{wants, misses}
use Rattle.ca_phrases.proofs.library.null.Goals as goal

pub returns-in_default-clause-reads : goal.returns-in_default-clause-reads
returns-in_default-clause-reads c = λ g on. misses c.in_default.ensures

pub returns-in_default-word-clause-reads : goal.returns-in_default-word-clause-reads
returns-in_default-word-clause-reads c = λ g on. wants c.in-Some.ensures refl (misses c.in_default-word.ensures)

pub returns-clause-reads : goal.returns-clause-reads
returns-clause-reads c = λ g on o d. wants c.in-Some.ensures refl (wants c.in-Some-word.ensures refl d)
