use Rattle.std.proofs.Common.{refl}
use Rattle.std.proofs.lemmas.Result.{err_from_is_err_and}
use Rattle.ca_grammar.specs.DeclarationPlans.{some_top}
use Rattle.ca_grammar.specs.Goals.{A_top}
use Rattle.ca_grammar.specs.Reads.{takes, passes, calls, fails, gives}
use Rattle.ca_read.specs.Declaring.{totals_of}
use Rattle.ca_expressions.proofs.Following.{pass}
use Rattle.ca_read.proofs.DeclarationSteps.{a_struct_or_end}
use Rattle.ca_read.proofs.tops.top.Goals as goal

pub returns-in_err-top-clause-reads : goal.returns-in_err-top-clause-reads
returns-in_err-top-clause-reads c =
    let p = err_from_is_err_and c.from_residual.result c.from_residual.ensures.1 in
    let m = totals_of c.args.totals in
    rw (p.1, p.2) (pass c.in_err-top.field-0.0 (λ r vs d. c.in-Some.ensures.reads (A_top m) _ _ _ (fails d)) c.in_err-top.ensures.reads)

pub returns-in-Some-clause-reads : goal.returns-in-Some-clause-reads
returns-in-Some-clause-reads c =
    let m = totals_of c.args.totals in
    c.in-Some.ensures.reads (A_top m) _ _ _ (calls c.in_ok-top.ensures.reads gives)

pub returns-in_err-top-2-clause-reads : goal.returns-in_err-top-2-clause-reads
returns-in_err-top-2-clause-reads c =
    let p = err_from_is_err_and c.from_residual-in_err-top-2.result c.from_residual-in_err-top-2.ensures.1 in
    let m = totals_of c.args.totals in
    rw (p.1, p.2) (pass c.in_err-top-2.field-0.0 (λ r vs d. c.in_default.ensures.reads (A_top m) _ _ _ d) (c.in_err-top-2.ensures.reads (A_top m) (some_top m) (a_struct_or_end m)))

pub returns-in-Some-2-clause-reads : goal.returns-in-Some-2-clause-reads
returns-in-Some-2-clause-reads c =
    let m = totals_of c.args.totals in
    let found = rw c.in-Some-2.is at c.in_ok-top-2.ensures.reads in
    c.in_default.ensures.reads (A_top m) _ _ _ (found (A_top m) (some_top m) (a_struct_or_end m) _ gives)

pub returns-in_default-word-clause-reads : goal.returns-in_default-word-clause-reads
returns-in_default-word-clause-reads c =
    let m = totals_of c.args.totals in
    let none = rw c.in_default-2.is at c.in_ok-top-2.ensures.reads in
    c.in_default.ensures.reads (A_top m) _ _ _ (none (A_top m) (some_top m) (a_struct_or_end m) _ (passes c.in_default-word.ensures gives))

pub returns-in_err-name-clause-reads : goal.returns-in_err-name-clause-reads
returns-in_err-name-clause-reads c =
    let p = err_from_is_err_and c.from_residual-in_err-name.result c.from_residual-in_err-name.ensures.1 in
    let m = totals_of c.args.totals in
    let none = rw c.in_default-2.is at c.in_ok-top-2.ensures.reads in
    rw (p.1, p.2) (pass c.in_err-name.field-0.0 (λ r vs d. c.in_default.ensures.reads (A_top m) _ _ _ (none (A_top m) (some_top m) (a_struct_or_end m) _ (takes c.in-Some-word.ensures refl d))) (c.in_err-name.ensures.reads (A_top m) _))

pub returns-in_err-top-3-clause-reads : goal.returns-in_err-top-3-clause-reads
returns-in_err-top-3-clause-reads c =
    let p = err_from_is_err_and c.from_residual-in_err-top-3.result c.from_residual-in_err-top-3.ensures.1 in
    let m = totals_of c.args.totals in
    let none = rw c.in_default-2.is at c.in_ok-top-2.ensures.reads in
    rw (p.1, p.2) (pass c.in_err-top-3.field-0.0 (λ r vs d. c.in_default.ensures.reads (A_top m) _ _ _ (none (A_top m) (some_top m) (a_struct_or_end m) _ (takes c.in-Some-word.ensures refl (c.in_ok-name.ensures.reads _ _ _ (fails d))))) c.in_err-top-3.ensures.reads)

pub returns-clause-reads : goal.returns-clause-reads
returns-clause-reads c =
    let m = totals_of c.args.totals in
    let none = rw c.in_default-2.is at c.in_ok-top-2.ensures.reads in
    c.in_default.ensures.reads (A_top m) _ _ _ (none (A_top m) (some_top m) (a_struct_or_end m) _ (takes c.in-Some-word.ensures refl (c.in_ok-name.ensures.reads _ _ _ (calls c.in_ok-top-3.ensures.reads gives))))
