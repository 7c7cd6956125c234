use Rattle.ca_grammar.specs.Reads.{passes, wants, exceeds, misses, gives}
use Rattle.ca_expressions.proofs.Counts.{past_counts, counts_over}
use Rattle.ca_phrases.proofs.types.unstarred.Goals as goal

pub returns-in_default-clause-reads : goal.returns-in_default-clause-reads
returns-in_default-clause-reads c = passes c.requires (misses c.in_default.ensures)

pub returns-in-Some-exceeded-clause-reads : goal.returns-in-Some-exceeded-clause-reads
returns-in-Some-exceeded-clause-reads c =
    let over = c.in-Some-exceeded.ensures in
    (over.0, passes c.requires (exceeds c.in-Some.ensures (counts_over c.args.counts.now c.args.at_name.now c.in-Some.text.now over.0 over.1)), over.2)

pub returns-in-Some-exceeded_by_name-clause-reads :
    goal.returns-in-Some-exceeded_by_name-clause-reads
returns-in-Some-exceeded_by_name-clause-reads c =
    let over = rw c.as_slice.ensures at c.in-Some-exceeded_by_name.ensures in
    (over.0, passes c.requires (exceeds c.in-Some.ensures (past_counts c.args.counts.now c.args.at_name.now c.in-Some.text.now _ c.in_default-exceeded.ensures over.1)), over.2)

pub returns-clause-reads : goal.returns-clause-reads
returns-clause-reads c =
    let fits = rw c.as_slice.ensures at c.in_default-exceeded_by_name.ensures in
    rw c.in_ok-name.ensures (passes c.requires (wants c.in-Some.ensures (past_counts c.args.counts.now c.args.at_name.now c.in-Some.text.now _ c.in_default-exceeded.ensures fits) gives))
