use Rattle.std.proofs.Common.{refl}
use Rattle.std.proofs.lemmas.Result.{err_from_is_err_and}
use Rattle.ca_grammar.specs.Words.{close_paren}
use Rattle.ca_grammar.specs.PhrasePlans.{must}
use Rattle.ca_grammar.specs.Reads.{wants, misses}
use Rattle.ca_phrases.proofs.library.mutex.Goals as goal

pub returns-in_err-name-clause-reads : goal.returns-in_err-name-clause-reads
returns-in_err-name-clause-reads c =
    let p = err_from_is_err_and c.from_residual.result c.from_residual.ensures.1 in
    rw (p.1, p.2) (λ g on. c.in_err-name.ensures.reads g (λ n. must close_paren (on n)))

pub returns-in_default-clause-reads : goal.returns-in_default-clause-reads
returns-in_default-clause-reads c = λ g on. c.in_ok-name.ensures.reads g (λ n. must close_paren (on n)) _ (misses c.in_default.ensures)

pub returns-clause-reads : goal.returns-clause-reads
returns-clause-reads c = λ g on o d. c.in_ok-name.ensures.reads g (λ n. must close_paren (on n)) o (wants c.in-Some.ensures refl d)
