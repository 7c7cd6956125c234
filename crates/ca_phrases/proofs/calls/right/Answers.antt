use Rattle.std.proofs.Common.{refl}
use Rattle.std.proofs.lemmas.Result.{err_from_is_err_and}
use Rattle.ca_grammar.specs.Goals.{A_right}
use Rattle.ca_grammar.specs.Expressions.{name}
use Rattle.ca_grammar.specs.Reads.{plan, takes, overs, passes, gives, calls, fails}
use Rattle.ca_phrases.specs.Phrases.{on_nameless, on_name}
use Rattle.ca_expressions.proofs.Following.{pass}
use Rattle.ca_expressions.proofs.Following.{follow_on}
use Rattle.ca_phrases.proofs.calls.right.Goals as goal

pub returns-in_err-malloc-clause-reads : goal.returns-in_err-malloc-clause-reads
returns-in_err-malloc-clause-reads c =
    let p = err_from_is_err_and c.from_residual.result c.from_residual.ensures.1 in
    rw (p.1, p.2) (pass c.in_err-malloc.field-0.0 (λ r vs d. takes c.in-Some.ensures refl (fails d)) c.in_err-malloc.ensures.reads)

pub returns-in-Some-clause-reads : goal.returns-in-Some-clause-reads
returns-in-Some-clause-reads c = takes c.in-Some.ensures refl (calls c.in_ok-malloc.ensures.reads gives)

pub returns-in_default-name_of_the_source-clause-reads :
    goal.returns-in_default-name_of_the_source-clause-reads
returns-in_default-name_of_the_source-clause-reads c =
    (follow_on A_right A_right on_nameless (plan A_right) _ _ c.args.tokens.now c.args.tokens.now c.nameless.result
    (λ x d. passes c.in_default.ensures (passes c.in_default-name_of_the_source.ensures d)) (λ r vs d. passes c.in_default.ensures (passes c.in_default-name_of_the_source.ensures d)) c.nameless.ensures.reads)

pub returns-in-Some-exceeded_by_name-clause-reads :
    goal.returns-in-Some-exceeded_by_name-clause-reads
returns-in-Some-exceeded_by_name-clause-reads c =
    let over = rw c.as_slice.ensures at c.in-Some-exceeded_by_name.ensures in
    (over.0, passes c.in_default.ensures (overs c.in-Some-name_of_the_source.ensures over.1), over.2)

pub returns-clause-reads : goal.returns-clause-reads
returns-clause-reads c =
    let fits = rw c.as_slice.ensures at c.in_default-exceeded_by_name.ensures in
    (follow_on A_right A_right (on_name (name c.in-Some-name_of_the_source.start c.in-Some-name_of_the_source.text.now)) (plan A_right) _ _ c.in-Some-name_of_the_source.rest.now c.args.tokens.now c.behind_name.result
    (λ x d. passes c.in_default.ensures (takes c.in-Some-name_of_the_source.ensures fits d)) (λ r vs d. passes c.in_default.ensures (takes c.in-Some-name_of_the_source.ensures fits d))
    (rw c.in_ok-named.ensures at c.behind_name.ensures.reads))
