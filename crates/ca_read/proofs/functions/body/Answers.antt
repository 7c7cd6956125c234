use Rattle.std.proofs.Common.{◌≡◌, ◌+◌, suc, refl, arith}
use Rattle.std.proofs.lemmas.Result.{err_from_is_err_and}
use Rattle.ca_grammar.specs.Reads.{takes, passes, wants, exceeds, misses, calls, fails, gives}
use Rattle.ca_expressions.proofs.Following.{pass}
use Rattle.ca_read.proofs.functions.body.Goals as goal

pub returns-in-Some-clause-reads : goal.returns-in-Some-clause-reads
returns-in-Some-clause-reads c = takes c.in-Some.ensures refl gives

pub returns-in_default-mark-clause-reads : goal.returns-in_default-mark-clause-reads
returns-in_default-mark-clause-reads c = passes c.in_default.ensures (misses c.in_default-mark.ensures)

pub returns-in-Some-exceeded-clause-reads : goal.returns-in-Some-exceeded-clause-reads
returns-in-Some-exceeded-clause-reads c =
    let over = rw c.next-count.ensures at c.in-Some-exceeded.ensures in
    (over.0, passes c.in_default.ensures (exceeds c.in-Some-mark.ensures over.1), over.2)

pub returns-in_err-pos-clause-reads : goal.returns-in_err-pos-clause-reads
returns-in_err-pos-clause-reads c =
    let p = err_from_is_err_and c.from_residual.result c.from_residual.ensures.1 in
    let fits = rw c.next-count.ensures at c.in_default-exceeded.ensures in
    rw (p.1, p.2) (pass c.in_err-pos.field-0.0 (λ r vs d. passes c.in_default.ensures (wants c.in-Some-mark.ensures fits (fails d))) c.in_err-pos.ensures.reads)

pub returns-clause-reads : goal.returns-clause-reads
returns-clause-reads c =
    let fits = rw c.next-count.ensures at c.in_default-exceeded.ensures in
    let same : c.in_ok-pos.items + 1 ≡ suc c.in_ok-pos.items = omega arith in
    rw (c.one_more_function-totals.ensures.count, same) (passes c.in_default.ensures (wants c.in-Some-mark.ensures fits (calls c.in_ok-pos.ensures.reads gives)))
