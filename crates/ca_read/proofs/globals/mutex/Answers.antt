use Rattle.std.proofs.lemmas.Result.{err_from_is_err_and}
use Rattle.ca_tree.specs.declared.token.Mark.TheVariants.{Semicolon}
use Rattle.ca_tree.specs.Counts.{one_more_mutex}
use Rattle.ca_grammar.specs.DeclarationPlans.{behind_mutex}
use Rattle.ca_grammar.specs.Goals.{Mutexes}
use Rattle.ca_grammar.specs.Reads.{No}
use Rattle.ca_read.specs.Declaring.{totals_of}
use Rattle.ca_expressions.proofs.Following.{pass}
use Rattle.ca_read.proofs.DeclarationSteps.{one_of}
use Rattle.ca_read.proofs.globals.mutex.Goals as goal

pub returns-in_err-name-clause-reads : goal.returns-in_err-name-clause-reads
returns-in_err-name-clause-reads c =
    let p = err_from_is_err_and c.from_residual.result c.from_residual.ensures.1 in
    let named = rw c.next-count.ensures at c.in_err-name.ensures.reads in
    rw (p.1, p.2) (named _ _)

pub returns-in_err-has_initializer-clause-reads : goal.returns-in_err-has_initializer-clause-reads
returns-in_err-has_initializer-clause-reads c =
    let p = err_from_is_err_and c.from_residual-in_err-has_initializer.result c.from_residual-in_err-has_initializer.ensures.1 in
    let named = rw c.next-count.ensures at c.in_ok-name.ensures.reads in
    let m = totals_of c.args.totals in
    rw (p.1, p.2) (pass c.in_err-has_initializer.field-0.0 (λ r vs d. named _ _ _ d) (c.in_err-has_initializer.ensures.reads (Mutexes m) (behind_mutex m c.in_ok-name.name)))

pub returns-in_err-more-clause-reads : goal.returns-in_err-more-clause-reads
returns-in_err-more-clause-reads c =
    let p = err_from_is_err_and c.from_residual-in_err-more.result c.from_residual-in_err-more.ensures.1 in
    let named = rw c.next-count.ensures at c.in_ok-name.ensures.reads in
    let m = totals_of c.args.totals in
    rw (p.1, p.2) (pass c.in_err-more.field-0.0 (λ r vs d. named _ _ _ (c.in_ok-has_initializer.ensures.reads (Mutexes m) (behind_mutex m c.in_ok-name.name) (No r vs) d)) (c.in_err-more.ensures.reads _ _ _))

pub returns-clause-reads : goal.returns-clause-reads
returns-clause-reads c =
    let named = rw c.next-count.ensures at c.in_ok-name.ensures.reads in
    let m = totals_of c.args.totals in
    one_of (Mutexes (one_more_mutex m)) (Mutexes m) _ _ Semicolon _ c.in_ok-more.more c.in_ok-has_initializer.rest.now c.in_ok-more.rest.now c.args.tokens.now
    (λ o d. named _ _ _ (c.in_ok-has_initializer.ensures.reads (Mutexes m) (behind_mutex m c.in_ok-name.name) o d)) c.in_ok-more.ensures.reads
