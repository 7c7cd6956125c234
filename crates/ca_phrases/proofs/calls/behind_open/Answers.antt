use Rattle.std.proofs.Common.{refl}
use Rattle.std.proofs.lemmas.Result.{err_from_is_err_and}
use Rattle.ca_tree.specs.declared.tree.Base.TheVariants as base
use Rattle.ca_grammar.specs.Goals.{A_right}
use Rattle.ca_grammar.specs.PhrasePlans.{value_from, behind_cast, behind_open}
use Rattle.ca_grammar.specs.Reads.{takes, passes}
use Rattle.ca_expressions.proofs.Following.{pass}
use Rattle.ca_expressions.proofs.Following.{follow_on}
use Rattle.ca_phrases.proofs.calls.behind_open.Goals as goal

pub returns-in-Some-clause-reads : goal.returns-in-Some-clause-reads
returns-in-Some-clause-reads c =
    follow_on A_right A_right (behind_cast c.args.start base.Int) (behind_open c.args.start) _ _ c.in-Some.rest.now c.args.tokens.now c.behind_cast.result
    (λ x d. takes c.in-Some.ensures refl d) (λ r vs d. takes c.in-Some.ensures refl d) c.behind_cast.ensures.reads

pub returns-in_err-name-clause-reads : goal.returns-in_err-name-clause-reads
returns-in_err-name-clause-reads c =
    let p = err_from_is_err_and c.from_residual.result c.from_residual.ensures.1 in
    rw (p.1, p.2) (pass c.in_err-name.field-0.0 (λ r vs d. passes c.in_default.ensures (takes c.in-Some-word.ensures refl d)) (c.in_err-name.ensures.reads _ _))

pub returns-in-Some-word-clause-reads : goal.returns-in-Some-word-clause-reads
returns-in-Some-word-clause-reads c =
    follow_on A_right A_right (behind_cast c.args.start (base.Struct c.in_ok-name.name)) (behind_open c.args.start) _ _ c.in_ok-name.rest.now c.args.tokens.now c.behind_cast-in-Some-word.result
    (λ x d. passes c.in_default.ensures (takes c.in-Some-word.ensures refl (c.in_ok-name.ensures.reads _ _ _ d)))
    (λ r vs d. passes c.in_default.ensures (takes c.in-Some-word.ensures refl (c.in_ok-name.ensures.reads _ _ _ d)))
    c.behind_cast-in-Some-word.ensures.reads

pub returns-in_err-a-clause-reads : goal.returns-in_err-a-clause-reads
returns-in_err-a-clause-reads c =
    let p = err_from_is_err_and c.from_residual-in_err-a.result c.from_residual-in_err-a.ensures.1 in
    rw (p.1, p.2) (pass c.in_err-a.field-0.0 (λ r vs d. passes c.in_default.ensures (passes c.in_default-word.ensures d)) (c.in_err-a.ensures.reads _ value_from))

pub returns-clause-reads : goal.returns-clause-reads
returns-clause-reads c =
    follow_on A_right A_right (value_from c.in_ok-a.a) (behind_open c.args.start) _ _ c.in_ok-a.rest.now c.args.tokens.now c.value_from.result
    (λ x d. passes c.in_default.ensures (passes c.in_default-word.ensures (c.in_ok-a.ensures.reads _ value_from _ d)))
    (λ r vs d. passes c.in_default.ensures (passes c.in_default-word.ensures (c.in_ok-a.ensures.reads _ value_from _ d)))
    c.value_from.ensures.reads
