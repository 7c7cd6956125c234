use Rattle.std.proofs.lemmas.Result.{err_from_is_err_and}
use Rattle.ca_grammar.specs.Goals.{Simple_at}
use Rattle.ca_grammar.specs.PhrasePlans.{on_target_or_call}
use Rattle.ca_grammar.specs.Reads.{No, plan}
use Rattle.ca_expressions.proofs.Following.{pass}
use Rattle.ca_expressions.proofs.Following.{follow_on}
use Rattle.ca_phrases.proofs.Phrases.{word_taken, word_over, past_words}
use Rattle.ca_phrases.proofs.simple.simple.Goals as goal

pub returns-in_default-clause-reads : goal.returns-in_default-clause-reads
returns-in_default-clause-reads c =
    let g = Simple_at c.args.counts.now in
    (follow_on g g (on_target_or_call c.args.counts.now) (plan g) _ _ c.args.tokens.now c.args.tokens.now c.of_the_source.result
    (λ x d. past_words c.args.counts.now c.args.tokens.now _ c.in_default.ensures d) (λ r vs d. past_words c.args.counts.now c.args.tokens.now _ c.in_default.ensures d) c.of_the_source.ensures.reads)

pub returns-in-Some-exceeded-clause-reads : goal.returns-in-Some-exceeded-clause-reads
returns-in-Some-exceeded-clause-reads c =
    let over = c.in-Some-exceeded.ensures in
    (over.0, word_over c.in-Some.word c.args.counts.now c.in-Some.pos c.args.tokens.now c.in-Some.rest.now over.0 c.in-Some.ensures over.1, over.2)

pub returns-in_err-call-clause-reads : goal.returns-in_err-call-clause-reads
returns-in_err-call-clause-reads c =
    let p = err_from_is_err_and c.from_residual.result c.from_residual.ensures.1 in
    rw (p.1, p.2) (pass c.in_err-call.field-0.0
    (λ r vs d. word_taken c.in-Some.word c.args.counts.now c.in-Some.pos c.args.tokens.now c.in-Some.rest.now (No r vs) c.in-Some.ensures c.in_default-exceeded.ensures d)
    (c.in_err-call.ensures.reads c.args.counts.now c.in-Some.pos))

pub returns-clause-reads : goal.returns-clause-reads
returns-clause-reads c =
    word_taken c.in-Some.word c.args.counts.now c.in-Some.pos c.args.tokens.now c.in-Some.rest.now _ c.in-Some.ensures c.in_default-exceeded.ensures (c.in_ok-call.ensures.reads c.args.counts.now c.in-Some.pos)
