use Rattle.std.proofs.Common.{refl}
use Rattle.std.proofs.lemmas.Result.{err_from_is_err_and}
use Rattle.ca_tree.specs.declared.tree.Library.TheVariants as library
use Rattle.ca_grammar.specs.Words.{close_paren}
use Rattle.ca_grammar.specs.PhrasePlans.{must, simply}
use Rattle.ca_grammar.specs.Reads.{wants, misses, gives, calls, fails}
use Rattle.ca_expressions.proofs.Following.{pass}
use Rattle.ca_phrases.proofs.library.join.Goals as goal

pub returns-in_default-clause-reads : goal.returns-in_default-clause-reads
returns-in_default-clause-reads c = λ cs q. misses c.in_default.ensures

pub returns-in_err-thread-clause-reads : goal.returns-in_err-thread-clause-reads
returns-in_err-thread-clause-reads c =
    let p = err_from_is_err_and c.from_residual.result c.from_residual.ensures.1 in
    rw (p.1, p.2) (λ cs q. pass c.in_err-thread.field-0.0 (λ r vs d. wants c.in-Some.ensures refl (fails d)) c.in_err-thread.ensures.reads)

pub returns-in_err-rest-clause-reads : goal.returns-in_err-rest-clause-reads
returns-in_err-rest-clause-reads c =
    let p = err_from_is_err_and c.from_residual-in_err-rest.result c.from_residual-in_err-rest.ensures.1 in
    rw (p.1, p.2) (λ cs q. pass c.in_err-rest.field-0.0 (λ r vs d. wants c.in-Some.ensures refl (calls c.in_ok-thread.ensures.reads d))
    (c.in_err-rest.ensures.reads _ (λ u. must close_paren (simply cs q (library.Join c.in_ok-thread.thread.exp)))))

pub returns-in_default-mark-clause-reads : goal.returns-in_default-mark-clause-reads
returns-in_default-mark-clause-reads c =
    λ cs q. wants c.in-Some.ensures refl (calls c.in_ok-thread.ensures.reads (c.in_ok-rest.ensures.reads _ (λ u. must close_paren (simply cs q (library.Join c.in_ok-thread.thread.exp))) _ (misses c.in_default-mark.ensures)))

pub returns-clause-reads : goal.returns-clause-reads
returns-clause-reads c =
    λ cs q. wants c.in-Some.ensures refl (calls c.in_ok-thread.ensures.reads (c.in_ok-rest.ensures.reads _ (λ u. must close_paren (simply cs q (library.Join c.in_ok-thread.thread.exp))) _ (wants c.in-Some-mark.ensures refl gives)))
