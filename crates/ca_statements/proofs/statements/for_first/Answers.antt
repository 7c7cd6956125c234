use Rattle.std.proofs.Common.{refl}
use Rattle.std.proofs.lemmas.Result.{err_from_is_err_and}
use Rattle.ca_tree.specs.declared.tree.Base.TheVariants as base
use Rattle.ca_grammar.specs.Expressions.{name}
use Rattle.ca_grammar.specs.Goals.{For_first}
use Rattle.ca_grammar.specs.StatementPlans.{first_local}
use Rattle.ca_grammar.specs.Reads.{No, plan, takes, overs, passes, gives}
use Rattle.ca_statements.specs.StatementReading.{first_simple_plan}
use Rattle.ca_expressions.proofs.Following.{pass, follow_on}
use Rattle.ca_statements.proofs.statements.for_first.Goals as goal

pub returns-in-Some-clause-reads : goal.returns-in-Some-clause-reads
returns-in-Some-clause-reads c = takes c.in-Some.ensures refl gives

pub returns-in-Some-over_item-clause-reads : goal.returns-in-Some-over_item-clause-reads
returns-in-Some-over_item-clause-reads c =
    let over = c.in-Some-over_item.ensures.exceeded in
    (over.0, passes c.in_default.ensures (overs c.in-Some-word.ensures over.1), over.2)

pub returns-in-Some-word-clause-reads : goal.returns-in-Some-word-clause-reads
returns-in-Some-word-clause-reads c =
    follow_on (For_first c.args.items) (For_first c.args.items) (first_local base.Int c.in-Some-word.pos c.args.items) (plan _) _ _ c.in-Some-word.rest.now c.args.tokens.now c.first_local.result
    (λ x d. passes c.in_default.ensures (takes c.in-Some-word.ensures c.in_default-over_item.ensures.exceeded d))
    (λ r vs d. passes c.in_default.ensures (takes c.in-Some-word.ensures c.in_default-over_item.ensures.exceeded d)) c.first_local.ensures.reads

pub returns-in_default-word-2-clause-reads : goal.returns-in_default-word-2-clause-reads
returns-in_default-word-2-clause-reads c =
    follow_on (For_first c.args.items) (For_first c.args.items) (first_simple_plan c.args.items) (plan _) _ _ c.args.tokens.now c.args.tokens.now c.first_simple.result
    (λ x d. passes c.in_default.ensures (passes c.in_default-word.ensures (passes c.in_default-word-2.ensures d)))
    (λ r vs d. passes c.in_default.ensures (passes c.in_default-word.ensures (passes c.in_default-word-2.ensures d))) c.first_simple.ensures.reads

pub returns-in-Some-over_item-2-clause-reads : goal.returns-in-Some-over_item-2-clause-reads
returns-in-Some-over_item-2-clause-reads c =
    let over = c.in-Some-over_item-2.ensures.exceeded in
    (over.0, passes c.in_default.ensures (passes c.in_default-word.ensures (overs c.in-Some-word-2.ensures over.1)), over.2)

pub returns-in_err-tag-clause-reads : goal.returns-in_err-tag-clause-reads
returns-in_err-tag-clause-reads c =
    let p = err_from_is_err_and c.from_residual.result c.from_residual.ensures.1 in
    rw (p.1, p.2) (pass c.in_err-tag.field-0.0
    (λ r vs d. passes c.in_default.ensures (passes c.in_default-word.ensures (takes c.in-Some-word-2.ensures c.in_default-over_item-2.ensures.exceeded d)))
    (c.in_err-tag.ensures.reads (For_first c.args.items) (λ q t. first_local (base.Struct (name q t)) c.in-Some-word-2.pos c.args.items)))

pub returns-clause-reads : goal.returns-clause-reads
returns-clause-reads c =
    let tag = c.in_ok-tag.ensures.reads (For_first c.args.items) (λ q t. first_local (base.Struct (name q t)) c.in-Some-word-2.pos c.args.items) in
    follow_on (For_first c.args.items) (For_first c.args.items) (first_local (base.Struct c.in_ok-tag.tag) c.in-Some-word-2.pos c.args.items) (plan _) _ _ c.in_ok-tag.rest.now c.args.tokens.now c.first_local-2.result
    (λ x d. passes c.in_default.ensures (passes c.in_default-word.ensures (takes c.in-Some-word-2.ensures c.in_default-over_item-2.ensures.exceeded (tag _ d))))
    (λ r vs d. passes c.in_default.ensures (passes c.in_default-word.ensures (takes c.in-Some-word-2.ensures c.in_default-over_item-2.ensures.exceeded (tag (No r vs) d)))) c.first_local-2.ensures.reads
