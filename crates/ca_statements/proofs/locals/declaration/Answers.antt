use Rattle.std.proofs.Common.{refl}
use Rattle.std.proofs.lemmas.Result.{err_from_is_err_and}
use Rattle.ca_grammar.specs.Goals.{Statements}
use Rattle.ca_grammar.specs.StatementPlans.{behind_locals}
use Rattle.ca_grammar.specs.Reads.{No, wants, misses}
use Rattle.ca_expressions.proofs.Following.{pass}
use Rattle.ca_statements.proofs.StatementSteps.{at_word, word_over}
use Rattle.ca_statements.proofs.locals.declaration.Goals as goal

pub returns-in-Some-over_nested_item-clause-reads : goal.returns-in-Some-over_nested_item-clause-reads
returns-in-Some-over_nested_item-clause-reads c =
    let over = c.in-Some-over_nested_item.ensures.exceeded in
    λ in_loop of_function. (over.0, word_over c.in-Some.word in_loop c.args.depth of_function c.args.items c.in-Some.pos c.args.tokens.now c.in-Some.rest.now over.0 c.in-Some.ensures over.1, over.2)

pub returns-in_err-locals-clause-reads : goal.returns-in_err-locals-clause-reads
returns-in_err-locals-clause-reads c =
    let p = err_from_is_err_and c.from_residual.result c.from_residual.ensures.1 in
    rw (p.1, p.2) (λ in_loop of_function. pass c.in_err-locals.field-0.0
    (λ r vs d. at_word c.in-Some.word in_loop c.args.depth of_function c.args.items c.in-Some.pos c.args.tokens.now c.in-Some.rest.now (No r vs) c.in-Some.ensures c.in_default-over_nested_item.ensures.exceeded d)
    (c.in_err-locals.ensures.reads (Statements in_loop c.args.depth of_function c.args.items) (behind_locals in_loop c.args.depth of_function c.args.items)))

pub returns-in_default-mark-clause-reads : goal.returns-in_default-mark-clause-reads
returns-in_default-mark-clause-reads c =
    λ in_loop of_function. at_word c.in-Some.word in_loop c.args.depth of_function c.args.items c.in-Some.pos c.args.tokens.now c.in-Some.rest.now _ c.in-Some.ensures c.in_default-over_nested_item.ensures.exceeded
    (c.in_ok-locals.ensures.reads (Statements in_loop c.args.depth of_function c.args.items) (behind_locals in_loop c.args.depth of_function c.args.items) _ (misses c.in_default-mark.ensures))

pub returns-clause-reads : goal.returns-clause-reads
returns-clause-reads c =
    λ in_loop of_function o d. at_word c.in-Some.word in_loop c.args.depth of_function c.args.items c.in-Some.pos c.args.tokens.now c.in-Some.rest.now o c.in-Some.ensures c.in_default-over_nested_item.ensures.exceeded
    (c.in_ok-locals.ensures.reads (Statements in_loop c.args.depth of_function c.args.items) (behind_locals in_loop c.args.depth of_function c.args.items) o (wants c.in-Some-mark.ensures refl d))
