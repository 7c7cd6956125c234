use Rattle.std.proofs.Common.{refl}
use Rattle.std.proofs.lemmas.Result.{err_from_is_err_and}
use Rattle.ca_tree.specs.declared.tree.Right.TheVariants as right
use Rattle.ca_grammar.specs.Goals.{Behind, A_right}
use Rattle.ca_grammar.specs.Plan.{last}
use Rattle.ca_grammar.specs.PhrasePlans.{value_from, behind_open}
use Rattle.ca_grammar.specs.Reads.{takes, passes, gives, calls, fails}
use Rattle.ca_phrases.specs.Phrases.{on_nameless}
use Rattle.ca_expressions.proofs.Following.{pass}
use Rattle.ca_expressions.proofs.Following.{follow_on}
use Rattle.ca_phrases.proofs.calls.nameless.Goals as goal

pub returns-in-Some-clause-reads : goal.returns-in-Some-clause-reads
returns-in-Some-clause-reads c =
    follow_on A_right A_right (behind_open c.in-Some.start) on_nameless _ _ c.in-Some.rest.now c.args.tokens.now c.behind_open.result
    (λ x d. takes c.in-Some.ensures refl d) (λ r vs d. takes c.in-Some.ensures refl d) c.behind_open.ensures.reads

pub returns-in_err-a-clause-reads : goal.returns-in_err-a-clause-reads
returns-in_err-a-clause-reads c =
    let p = err_from_is_err_and c.from_residual.result c.from_residual.ensures.1 in
    rw (p.1, p.2) (pass c.in_err-a.field-0.0 (λ r vs d. passes c.in_default.ensures (takes c.in-Some-unary_operator.ensures refl d))
    (c.in_err-a.ensures.reads _ (λ a. last (Behind 6 a) A_right (λ b. right.Value b.exp))))

pub returns-in_err-b-clause-reads : goal.returns-in_err-b-clause-reads
returns-in_err-b-clause-reads c =
    let p = err_from_is_err_and c.from_residual-in_err-b.result c.from_residual-in_err-b.ensures.1 in
    rw (p.1, p.2) (pass c.in_err-b.field-0.0
    (λ r vs d. passes c.in_default.ensures (takes c.in-Some-unary_operator.ensures refl (c.in_ok-a.ensures.reads _ (λ a. last (Behind 6 a) A_right (λ b. right.Value b.exp)) _ (fails d)))) c.in_err-b.ensures.reads)

pub returns-in-Some-unary_operator-clause-reads :
    goal.returns-in-Some-unary_operator-clause-reads
returns-in-Some-unary_operator-clause-reads c =
    passes c.in_default.ensures (takes c.in-Some-unary_operator.ensures refl (c.in_ok-a.ensures.reads _ (λ a. last (Behind 6 a) A_right (λ b. right.Value b.exp)) _ (calls c.in_ok-b.ensures.reads gives)))

pub returns-in_err-a-2-clause-reads : goal.returns-in_err-a-2-clause-reads
returns-in_err-a-2-clause-reads c =
    let p = err_from_is_err_and c.from_residual-in_err-a-2.result c.from_residual-in_err-a-2.ensures.1 in
    rw (p.1, p.2) (pass c.in_err-a-2.field-0.0 (λ r vs d. passes c.in_default.ensures (passes c.in_default-unary_operator.ensures d)) (c.in_err-a-2.ensures.reads _ value_from))

pub returns-clause-reads : goal.returns-clause-reads
returns-clause-reads c =
    follow_on A_right A_right (value_from c.in_ok-a-2.a) on_nameless _ _ c.in_ok-a-2.rest.now c.args.tokens.now c.value_from.result
    (λ x d. passes c.in_default.ensures (passes c.in_default-unary_operator.ensures (c.in_ok-a-2.ensures.reads _ value_from _ d)))
    (λ r vs d. passes c.in_default.ensures (passes c.in_default-unary_operator.ensures (c.in_ok-a-2.ensures.reads _ value_from _ d)))
    c.value_from.ensures.reads
