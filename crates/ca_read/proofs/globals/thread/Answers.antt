use Rattle.std.proofs.lemmas.Result.{err_from_is_err_and}
use Rattle.ca_tree.specs.declared.token.Mark.TheVariants.{Semicolon}
use Rattle.ca_tree.specs.Counts.{one_more_global}
use Rattle.ca_grammar.specs.DeclarationPlans.{behind_thread}
use Rattle.ca_grammar.specs.Goals.{Threads}
use Rattle.ca_grammar.specs.Reads.{No}
use Rattle.ca_read.specs.Declaring.{totals_of}
use Rattle.ca_expressions.proofs.Following.{pass}
use Rattle.ca_read.proofs.DeclarationSteps.{one_of}
use Rattle.ca_read.proofs.globals.thread.Goals as goal

pub returns-in_err-name-clause-reads : goal.returns-in_err-name-clause-reads
returns-in_err-name-clause-reads c =
    let p = err_from_is_err_and c.from_residual.result c.from_residual.ensures.1 in
    rw (p.1, p.2) (c.in_err-name.ensures.reads _ _)

pub returns-in_err-length-clause-reads : goal.returns-in_err-length-clause-reads
returns-in_err-length-clause-reads c =
    let p = err_from_is_err_and c.from_residual-in_err-length.result c.from_residual-in_err-length.ensures.1 in
    let sized = rw c.next.ensures at c.in_err-length.ensures.reads in
    let m = totals_of c.args.totals in
    rw (p.1, p.2) (pass c.in_err-length.field-0.0 (λ r vs d. c.in_ok-name.ensures.reads _ _ _ d) (sized (Threads m) (λ cs l. behind_thread m cs c.in_ok-name.name l)))

pub returns-in_err-more-clause-reads : goal.returns-in_err-more-clause-reads
returns-in_err-more-clause-reads c =
    let p = err_from_is_err_and c.from_residual-in_err-more.result c.from_residual-in_err-more.ensures.1 in
    let sized = rw c.next.ensures at c.in_ok-length.ensures.reads in
    let m = totals_of c.args.totals in
    rw (p.1, p.2) (pass c.in_err-more.field-0.0 (λ r vs d. c.in_ok-name.ensures.reads _ _ _ (sized (Threads m) (λ cs l. behind_thread m cs c.in_ok-name.name l) (No r vs) d)) (c.in_err-more.ensures.reads _ _ _))

pub returns-clause-reads : goal.returns-clause-reads
returns-clause-reads c =
    let sized = rw c.next.ensures at c.in_ok-length.ensures.reads in
    let m = totals_of c.args.totals in
    one_of (Threads (one_more_global m)) (Threads m) _ _ Semicolon _ c.in_ok-more.more c.in_ok-length.rest.now c.in_ok-more.rest.now c.args.tokens.now
    (λ o d. c.in_ok-name.ensures.reads _ _ _ (sized (Threads m) (λ cs l. behind_thread m cs c.in_ok-name.name l) o d)) c.in_ok-more.ensures.reads
