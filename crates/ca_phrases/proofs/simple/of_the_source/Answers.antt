use Rattle.std.proofs.lemmas.Result.{err_from_is_err_and}
use Rattle.ca_grammar.specs.Reads.{takes, overs, passes, gives, calls, fails}
use Rattle.ca_expressions.proofs.Following.{pass}
use Rattle.ca_phrases.proofs.simple.of_the_source.Goals as goal

pub returns-in-Some-exceeded-clause-reads : goal.returns-in-Some-exceeded-clause-reads
returns-in-Some-exceeded-clause-reads c =
    let over = c.in-Some-exceeded.ensures in
    (over.0, overs c.in-Some.ensures over.1, over.2)

pub returns-in_err-target-clause-reads : goal.returns-in_err-target-clause-reads
returns-in_err-target-clause-reads c =
    let p = err_from_is_err_and c.from_residual.result c.from_residual.ensures.1 in
    rw (p.1, p.2) (pass c.in_err-target.field-0.0 (λ r vs d. takes c.in-Some.ensures c.in_default-exceeded.ensures (fails d)) c.in_err-target.ensures.reads)

pub returns-in-Some-clause-reads : goal.returns-in-Some-clause-reads
returns-in-Some-clause-reads c = rw c.one.ensures (takes c.in-Some.ensures c.in_default-exceeded.ensures (calls c.in_ok-target.ensures.reads gives))

pub returns-in-Some-exceeded_by_name-clause-reads :
    goal.returns-in-Some-exceeded_by_name-clause-reads
returns-in-Some-exceeded_by_name-clause-reads c =
    let over = rw c.as_slice.ensures at c.in-Some-exceeded_by_name.ensures in
    (over.0, passes c.in_default.ensures (overs c.in-Some-name_of_the_source.ensures over.1), over.2)

pub returns-in_err-statement-clause-reads : goal.returns-in_err-statement-clause-reads
returns-in_err-statement-clause-reads c =
    let p = err_from_is_err_and c.from_residual-in_err-statement.result c.from_residual-in_err-statement.ensures.1 in
    let fits = rw c.as_slice.ensures at c.in_default-exceeded_by_name.ensures in
    let read = rw c.in_ok-named.ensures at c.in_err-statement.ensures.reads in
    rw (p.1, p.2) (pass c.in_err-statement.field-0.0 (λ r vs d. passes c.in_default.ensures (takes c.in-Some-name_of_the_source.ensures fits d)) (read c.args.counts.now))

pub returns-in-Some-name_of_the_source-clause-reads :
    goal.returns-in-Some-name_of_the_source-clause-reads
returns-in-Some-name_of_the_source-clause-reads c =
    let fits = rw c.as_slice.ensures at c.in_default-exceeded_by_name.ensures in
    let read = rw c.in_ok-named.ensures at c.in_ok-statement.ensures.reads in
    passes c.in_default.ensures (takes c.in-Some-name_of_the_source.ensures fits (read c.args.counts.now))

pub returns-in_err-target-2-clause-reads : goal.returns-in_err-target-2-clause-reads
returns-in_err-target-2-clause-reads c =
    let p = err_from_is_err_and c.from_residual-in_err-target-2.result c.from_residual-in_err-target-2.ensures.1 in
    rw (p.1, p.2) (pass c.in_err-target-2.field-0.0 (λ r vs d. passes c.in_default.ensures (passes c.in_default-name_of_the_source.ensures (fails d))) c.in_err-target-2.ensures.reads)

pub returns-in_err-statement-2-clause-reads : goal.returns-in_err-statement-2-clause-reads
returns-in_err-statement-2-clause-reads c =
    let p = err_from_is_err_and c.from_residual-in_err-statement-2.result c.from_residual-in_err-statement-2.ensures.1 in
    rw (p.1, p.2) (pass c.in_err-statement-2.field-0.0 (λ r vs d. passes c.in_default.ensures (passes c.in_default-name_of_the_source.ensures (calls c.in_ok-target-2.ensures.reads (fails d)))) c.in_err-statement-2.ensures.reads)

pub returns-clause-reads : goal.returns-clause-reads
returns-clause-reads c = passes c.in_default.ensures (passes c.in_default-name_of_the_source.ensures (calls c.in_ok-target-2.ensures.reads (calls c.in_ok-statement-2.ensures.reads gives)))
