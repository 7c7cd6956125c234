use Rattle.ca_grammar.specs.Reads.{takes, overs, passes, wants, exceeds, misses}
use Rattle.ca_read.proofs.totals.comma_or.Goals as goal

pub returns-in-Some-exceeded-clause-reads : goal.returns-in-Some-exceeded-clause-reads
returns-in-Some-exceeded-clause-reads c =
    let over = c.in-Some-exceeded.ensures in
    λ g k l. (over.0, overs c.in-Some.ensures over.1, over.2)

pub returns-in-Some-clause-reads : goal.returns-in-Some-clause-reads
returns-in-Some-clause-reads c = λ g k l o d. takes c.in-Some.ensures c.in_default-exceeded.ensures d

pub returns-in_default-mark-clause-reads : goal.returns-in_default-mark-clause-reads
returns-in_default-mark-clause-reads c = λ g k l. passes c.in_default.ensures (misses c.in_default-mark.ensures)

pub returns-in-Some-exceeded-2-clause-reads : goal.returns-in-Some-exceeded-2-clause-reads
returns-in-Some-exceeded-2-clause-reads c =
    let over = c.in-Some-exceeded-2.ensures in
    λ g k l. (over.0, passes c.in_default.ensures (exceeds c.in-Some-mark.ensures over.1), over.2)

pub returns-clause-reads : goal.returns-clause-reads
returns-clause-reads c = λ g k l o d. passes c.in_default.ensures (wants c.in-Some-mark.ensures c.in_default-exceeded-2.ensures d)
