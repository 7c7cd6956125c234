use Rattle.ca_grammar.specs.Reads.{wants, exceeds, misses}
use Rattle.ca_expressions.proofs.Counts.{kept_with_name}
use Rattle.ca_expressions.proofs.names.wanted_name.Goals as goal

pub returns-in_default-clause-reads : goal.returns-in_default-clause-reads
returns-in_default-clause-reads c = λ g on. misses c.in_default.ensures

pub returns-in-Some-exceeded_by_name-clause-reads :
    goal.returns-in-Some-exceeded_by_name-clause-reads
returns-in-Some-exceeded_by_name-clause-reads c =
    let over = rw c.as_slice.ensures at c.in-Some-exceeded_by_name.ensures in
    λ g on. (over.0, exceeds c.in-Some.ensures over.1, over.2)

pub returns-clause-reads : goal.returns-clause-reads
returns-clause-reads c =
    let fits = rw c.as_slice.ensures at c.in_default-exceeded_by_name.ensures in
    λ g on o d. wants c.in-Some.ensures fits (rw c.in_ok-named.ensures at d)

pub returns-clause-kept : goal.returns-clause-kept
returns-clause-kept c = kept_with_name c.args.counts.now c.as_slice.result.now c.in_default-exceeded_by_name.ensures
