use Rattle.std.proofs.Common.{refl}
use Rattle.std.proofs.lemmas.Result.{err_from_is_err_and}
use Rattle.ca_tree.specs.declared.tree.Base.TheVariants as base
use Rattle.ca_grammar.specs.Goals.{Threads_at, Variables_at, Local_at}
use Rattle.ca_grammar.specs.Reads.{Yes, No, plan, gives, takes, passes, wants, misses, calls, fails}
use Rattle.ca_grammar.specs.Expressions.{name}
use Rattle.ca_grammar.specs.Plan.{last}
use Rattle.ca_expressions.proofs.Following.{pass, follow_on}
use Rattle.ca_statements.proofs.locals.volatile_locals.Goals as goal

pub returns-in-Some-clause-reads : goal.returns-in-Some-clause-reads
returns-in-Some-clause-reads c =
    let skip = c.skip_volatiles-start.ensures.reads c.args.pos c.args.items in
    follow_on (Threads_at c.args.pos c.args.items) (Local_at c.args.pos c.args.items) (plan _) (plan _) _ _ c.in-Some.rest.now c.args.tokens.now c.threads.result
    (λ x d. skip _ (passes c.skip_volatiles-start.ensures.none (takes c.in-Some.ensures refl (calls d gives))))
    (λ r vs d. skip _ (passes c.skip_volatiles-start.ensures.none (takes c.in-Some.ensures refl (fails d)))) c.threads.ensures.reads

pub returns-in-Some-word-clause-reads : goal.returns-in-Some-word-clause-reads
returns-in-Some-word-clause-reads c =
    let skip = c.skip_volatiles-start.ensures.reads c.args.pos c.args.items in
    follow_on (Variables_at base.Int c.args.pos c.args.items) (Local_at c.args.pos c.args.items) (plan _) (plan _) _ _ c.in-Some-word.rest.now c.args.tokens.now c.variables.result
    (λ x d. skip _ (passes c.skip_volatiles-start.ensures.none (passes c.in_default.ensures (takes c.in-Some-word.ensures refl (calls d gives)))))
    (λ r vs d. skip _ (passes c.skip_volatiles-start.ensures.none (passes c.in_default.ensures (takes c.in-Some-word.ensures refl (fails d))))) c.variables.ensures.reads

pub returns-in_default-word-2-clause-reads : goal.returns-in_default-word-2-clause-reads
returns-in_default-word-2-clause-reads c =
    let skip = c.skip_volatiles-start.ensures.reads c.args.pos c.args.items in
    skip _ (passes c.skip_volatiles-start.ensures.none (passes c.in_default.ensures (passes c.in_default-word.ensures (misses c.in_default-word-2.ensures))))

pub returns-in_err-tag-clause-reads : goal.returns-in_err-tag-clause-reads
returns-in_err-tag-clause-reads c =
    let p = err_from_is_err_and c.from_residual.result c.from_residual.ensures.1 in
    let skip = c.skip_volatiles-start.ensures.reads c.args.pos c.args.items in
    rw (p.1, p.2) (pass c.in_err-tag.field-0.0
    (λ r vs d. skip (No r vs) (passes c.skip_volatiles-start.ensures.none (passes c.in_default.ensures (passes c.in_default-word.ensures (wants c.in-Some-word-2.ensures refl d)))))
    (c.in_err-tag.ensures.reads (Local_at c.args.pos c.args.items) (λ q t. last (Variables_at (base.Struct (name q t)) c.args.pos c.args.items) (Local_at c.args.pos c.args.items) (λ l. l))))

pub returns-clause-reads : goal.returns-clause-reads
returns-clause-reads c =
    let skip = c.skip_volatiles-start.ensures.reads c.args.pos c.args.items in
    let tag = c.in_ok-tag.ensures.reads (Local_at c.args.pos c.args.items) (λ q t. last (Variables_at (base.Struct (name q t)) c.args.pos c.args.items) (Local_at c.args.pos c.args.items) (λ l. l)) in
    follow_on (Variables_at (base.Struct c.in_ok-tag.tag) c.args.pos c.args.items) (Local_at c.args.pos c.args.items) (plan _) (plan _) _ _ c.in_ok-tag.rest.now c.args.tokens.now c.variables-2.result
    (λ x d. skip (Yes _ _) (passes c.skip_volatiles-start.ensures.none (passes c.in_default.ensures (passes c.in_default-word.ensures (wants c.in-Some-word-2.ensures refl (tag (Yes _ _) (calls d gives)))))))
    (λ r vs d. skip (No r vs) (passes c.skip_volatiles-start.ensures.none (passes c.in_default.ensures (passes c.in_default-word.ensures (wants c.in-Some-word-2.ensures refl (tag (No r vs) (fails d)))))))
    c.variables-2.ensures.reads
