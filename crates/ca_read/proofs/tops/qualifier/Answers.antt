use Rattle.std.proofs.Common.{refl}
use Rattle.ca_grammar.specs.Reads.{takes, passes}
use Rattle.ca_read.proofs.tops.qualifier.Goals as goal

pub returns-in-Some-clause-reads : goal.returns-in-Some-clause-reads
returns-in-Some-clause-reads c = λ g k l o d. takes c.in-Some.ensures refl d

pub returns-in_err-rest-clause-reads : goal.returns-in_err-rest-clause-reads
returns-in_err-rest-clause-reads c = rw c.from_residual.ensures (λ g k l o d. passes c.in_default.ensures (passes c.in_err-rest.ensures d))

pub returns-clause-reads : goal.returns-clause-reads
returns-clause-reads c = λ g k l o d. passes c.in_default.ensures (takes c.in_ok-rest.ensures refl d)
