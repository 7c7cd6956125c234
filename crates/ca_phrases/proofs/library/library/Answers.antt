use Rattle.std.proofs.lemmas.Result.{err_from_is_err_and}
use Rattle.ca_tree.specs.declared.tree.Library.TheVariants as library
use Rattle.ca_grammar.specs.PhrasePlans.{simply}
use Rattle.ca_grammar.specs.Reads.{gives}
use Rattle.ca_phrases.proofs.library.library.Goals as goal

pub returns-in_err-name-in-Lock-clause-reads : goal.returns-in_err-name-in-Lock-clause-reads
returns-in_err-name-in-Lock-clause-reads c =
    let p = err_from_is_err_and c.from_residual.result c.from_residual.ensures.1 in
    rw (p.1, p.2, c.in-Lock.is) (λ cs q. c.in_err-name-in-Lock.ensures.reads _ (λ n. simply cs q (library.Lock n)))

pub returns-in_err-name-in-Unlock-clause-reads : goal.returns-in_err-name-in-Unlock-clause-reads
returns-in_err-name-in-Unlock-clause-reads c =
    let p = err_from_is_err_and c.from_residual-in_err-name-in-Unlock.result c.from_residual-in_err-name-in-Unlock.ensures.1 in
    rw (p.1, p.2, c.in-Unlock.is) (λ cs q. c.in_err-name-in-Unlock.ensures.reads _ (λ n. simply cs q (library.Unlock n)))

pub returns-in_err-a-in-Free-clause-reads : goal.returns-in_err-a-in-Free-clause-reads
returns-in_err-a-in-Free-clause-reads c =
    let p = err_from_is_err_and c.from_residual-in_err-a-in-Free.result c.from_residual-in_err-a-in-Free.ensures.1 in
    rw (p.1, p.2, c.in-Free.is) (λ cs q. c.in_err-a-in-Free.ensures.reads _ (λ a. simply cs q (library.Free a)))

pub returns-in_err-a-in-Assert-clause-reads : goal.returns-in_err-a-in-Assert-clause-reads
returns-in_err-a-in-Assert-clause-reads c =
    let p = err_from_is_err_and c.from_residual-in_err-a-in-Assert.result c.from_residual-in_err-a-in-Assert.ensures.1 in
    rw (p.1, p.2, c.in-Assert.is) (λ cs q. c.in_err-a-in-Assert.ensures.reads _ (λ a. simply cs q (library.Assert a)))

pub returns-in_ok-name-in-Lock-clause-reads : goal.returns-in_ok-name-in-Lock-clause-reads
returns-in_ok-name-in-Lock-clause-reads c = rw c.in-Lock.is (λ cs q. c.in_ok-name-in-Lock.ensures.reads _ (λ n. simply cs q (library.Lock n)) _ gives)

pub returns-in_ok-name-in-Unlock-clause-reads : goal.returns-in_ok-name-in-Unlock-clause-reads
returns-in_ok-name-in-Unlock-clause-reads c = rw c.in-Unlock.is (λ cs q. c.in_ok-name-in-Unlock.ensures.reads _ (λ n. simply cs q (library.Unlock n)) _ gives)

pub returns-in-Create-clause-reads : goal.returns-in-Create-clause-reads
returns-in-Create-clause-reads c = rw c.in-Create.is c.create.ensures.reads

pub returns-in-Join-clause-reads : goal.returns-in-Join-clause-reads
returns-in-Join-clause-reads c = rw c.in-Join.is c.join.ensures.reads

pub returns-in_ok-a-in-Free-clause-reads : goal.returns-in_ok-a-in-Free-clause-reads
returns-in_ok-a-in-Free-clause-reads c = rw c.in-Free.is (λ cs q. c.in_ok-a-in-Free.ensures.reads _ (λ a. simply cs q (library.Free a)) _ gives)

pub returns-in_ok-a-in-Assert-clause-reads : goal.returns-in_ok-a-in-Assert-clause-reads
returns-in_ok-a-in-Assert-clause-reads c = rw c.in-Assert.is (λ cs q. c.in_ok-a-in-Assert.ensures.reads _ (λ a. simply cs q (library.Assert a)) _ gives)

pub returns-in-Print-clause-reads : goal.returns-in-Print-clause-reads
returns-in-Print-clause-reads c = rw c.in-Print.is c.print.ensures.reads
