use Rattle.std.proofs.lemmas.Result.{err_from_is_err_and}
use Rattle.ca_grammar.specs.Goals.{From, Nameless_unary}
use Rattle.ca_grammar.specs.ExpressionPlans.{from_leaf}
use Rattle.ca_grammar.specs.Reads.{takes, overs, passes, gives, calls, fails}
use Rattle.ca_expressions.specs.Parts.{on_signed}
use Rattle.ca_expressions.proofs.Following.{pass, follow_on, read_on, begun}
use Rattle.ca_expressions.proofs.expressions.nameless_unary.Goals as goal

pub returns-in-Some-exceeded-clause-reads : goal.returns-in-Some-exceeded-clause-reads
returns-in-Some-exceeded-clause-reads c =
    let over = c.in-Some-exceeded.ensures in
    (over.0, overs c.in-Some.ensures over.1, over.2)

pub returns-in-Some-clause-reads : goal.returns-in-Some-clause-reads
returns-in-Some-clause-reads c =
    let g = Nameless_unary c.args.counts.now in
    (follow_on g g _ _ _ _ c.in-Some.rest.now c.args.tokens.now c.behind_operator.result (λ x d. takes c.in-Some.ensures c.in_default-exceeded.ensures d) (λ r vs d. takes c.in-Some.ensures c.in_default-exceeded.ensures d)
    (begun (on_signed c.in-Some.start c.in-Some.operator) _ g (λ a. a) c.in-Some.rest.now c.behind_operator.result c.behind_operator.ensures.reads))

pub returns-in-Some-exceeded-2-clause-reads : goal.returns-in-Some-exceeded-2-clause-reads
returns-in-Some-exceeded-2-clause-reads c =
    let over = c.in-Some-exceeded-2.ensures in
    (over.0, passes c.in_default.ensures (overs c.in-Some-mark.ensures over.1), over.2)

pub returns-in_err-a-clause-reads : goal.returns-in_err-a-clause-reads
returns-in_err-a-clause-reads c =
    let p = err_from_is_err_and c.from_residual.result c.from_residual.ensures.1 in
    rw (p.1, p.2) (pass c.in_err-a.field-0.0 (λ r vs d. passes c.in_default.ensures (takes c.in-Some-mark.ensures c.in_default-exceeded-2.ensures d)) (c.in_err-a.ensures.reads _ (from_leaf c.args.counts.now)))

pub returns-in-Some-mark-clause-reads : goal.returns-in-Some-mark-clause-reads
returns-in-Some-mark-clause-reads c =
    read_on (From 0 c.in_ok-a.a) (Nameless_unary c.args.counts.now) _ _ c.in_ok-a.rest.now c.args.tokens.now c.behind_primary.result
    (λ x d. passes c.in_default.ensures (takes c.in-Some-mark.ensures c.in_default-exceeded-2.ensures (c.in_ok-a.ensures.reads _ (from_leaf c.args.counts.now) _ (calls d gives))))
    (λ r vs d. passes c.in_default.ensures (takes c.in-Some-mark.ensures c.in_default-exceeded-2.ensures (c.in_ok-a.ensures.reads _ (from_leaf c.args.counts.now) _ (fails d))))
    c.behind_primary.ensures.reads

pub returns-in_err-a-2-clause-reads : goal.returns-in_err-a-2-clause-reads
returns-in_err-a-2-clause-reads c =
    let p = err_from_is_err_and c.from_residual-in_err-a-2.result c.from_residual-in_err-a-2.ensures.1 in
    rw (p.1, p.2) (pass c.in_err-a-2.field-0.0 (λ r vs d. passes c.in_default.ensures (passes c.in_default-mark.ensures d)) (c.in_err-a-2.ensures.reads _ (from_leaf c.args.counts.now)))

pub returns-clause-reads : goal.returns-clause-reads
returns-clause-reads c =
    read_on (From 0 c.in_ok-a-2.a) (Nameless_unary c.args.counts.now) _ _ c.in_ok-a-2.rest.now c.args.tokens.now c.behind_primary-2.result
    (λ x d. passes c.in_default.ensures (passes c.in_default-mark.ensures (c.in_ok-a-2.ensures.reads _ (from_leaf c.args.counts.now) _ (calls d gives))))
    (λ r vs d. passes c.in_default.ensures (passes c.in_default-mark.ensures (c.in_ok-a-2.ensures.reads _ (from_leaf c.args.counts.now) _ (fails d))))
    c.behind_primary-2.ensures.reads
