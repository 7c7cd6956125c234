use Rattle.std.proofs.Common.{refl}
use Rattle.std.proofs.lemmas.Result.{err_from_is_err_and}
use Rattle.ca_grammar.specs.Words.{comma}
use Rattle.ca_grammar.specs.Goals.{Simple_at}
use Rattle.ca_grammar.specs.PhrasePlans.{must, behind_create}
use Rattle.ca_grammar.specs.Reads.{wants, misses}
use Rattle.ca_phrases.specs.Phrases.{on_null, on_started}
use Rattle.ca_expressions.proofs.Following.{pass}
use Rattle.ca_expressions.proofs.Following.{follow_on}
use Rattle.ca_phrases.proofs.library.create.Goals as goal

pub returns-in_err-thread-clause-reads : goal.returns-in_err-thread-clause-reads
returns-in_err-thread-clause-reads c =
    let p = err_from_is_err_and c.from_residual.result c.from_residual.ensures.1 in
    rw (p.1, p.2) (λ cs q. c.in_err-thread.ensures.reads _ (λ n. on_null _ (λ u. must comma (on_started n cs q))))

pub returns-in_err-rest-clause-reads : goal.returns-in_err-rest-clause-reads
returns-in_err-rest-clause-reads c =
    let p = err_from_is_err_and c.from_residual-in_err-rest.result c.from_residual-in_err-rest.ensures.1 in
    rw (p.1, p.2) (λ cs q. pass c.in_err-rest.field-0.0 (λ r vs d. c.in_ok-thread.ensures.reads _ (λ n. on_null _ (λ u. must comma (on_started n cs q))) _ d)
    (c.in_err-rest.ensures.reads _ (λ u. must comma (on_started c.in_ok-thread.thread cs q))))

pub returns-in_default-clause-reads : goal.returns-in_default-clause-reads
returns-in_default-clause-reads c =
    λ cs q. c.in_ok-thread.ensures.reads _ (λ n. on_null _ (λ u. must comma (on_started n cs q))) _ (c.in_ok-rest.ensures.reads _ (λ u. must comma (on_started c.in_ok-thread.thread cs q)) _ (misses c.in_default.ensures))

pub returns-clause-reads : goal.returns-clause-reads
returns-clause-reads c = λ cs q.
    follow_on (Simple_at cs) (Simple_at cs) (on_started c.in_ok-thread.thread cs q) (behind_create cs q) _ _ c.in-Some.rest.now c.args.tokens.now c.started.result
    (λ x d. c.in_ok-thread.ensures.reads _ (λ n. on_null _ (λ u. must comma (on_started n cs q))) _ (c.in_ok-rest.ensures.reads _ (λ u. must comma (on_started c.in_ok-thread.thread cs q)) _ (wants c.in-Some.ensures refl d)))
    (λ r vs d. c.in_ok-thread.ensures.reads _ (λ n. on_null _ (λ u. must comma (on_started n cs q))) _ (c.in_ok-rest.ensures.reads _ (λ u. must comma (on_started c.in_ok-thread.thread cs q)) _ (wants c.in-Some.ensures refl d)))
    (c.started.ensures.reads cs q)
