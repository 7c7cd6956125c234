use Rattle.std.proofs.Common.{suc}
use Rattle.std.proofs.lemmas.Result.{err_from_is_err_and}
use Rattle.ca_tree.specs.declared.token.Mark.TheVariants.{CloseParen}
use Rattle.ca_grammar.specs.Goals.{Behind_type, Next_parameter}
use Rattle.ca_grammar.specs.Reads.{overs, passes}
use Rattle.ca_expressions.proofs.Following.{pass}
use Rattle.ca_read.proofs.DeclarationSteps.{one_of, named_parameter, behind_name_fails}
use Rattle.ca_read.proofs.functions.parameter_name.Goals as goal

pub returns-in_err-more-clause-reads : goal.returns-in_err-more-clause-reads
returns-in_err-more-clause-reads c =
    let p = err_from_is_err_and c.from_residual.result c.from_residual.ensures.1 in
    let comma = rw c.next.ensures at c.in_err-more.ensures.reads in
    rw (p.1, p.2) (λ of. pass c.in_err-more.field-0.0 (λ r vs d. passes c.in_default.ensures d) (comma (Behind_type of c.args.before) _ _))

pub returns-in_default-clause-reads : goal.returns-in_default-clause-reads
returns-in_default-clause-reads c =
    let comma = rw c.next.ensures at c.in_ok-more.ensures.reads in
    λ of. one_of (Next_parameter (suc c.args.before)) (Behind_type of c.args.before) _ _ CloseParen _ c.in_ok-more.more c.args.tokens.now c.in_ok-more.rest.now c.args.tokens.now (λ o d. passes c.in_default.ensures d) comma

pub returns-in-Some-exceeded_by_name-clause-reads :
    goal.returns-in-Some-exceeded_by_name-clause-reads
returns-in-Some-exceeded_by_name-clause-reads c =
    let over = rw (c.next.ensures, c.as_slice.ensures) at c.in-Some-exceeded_by_name.ensures in
    λ of. (over.0, overs c.in-Some.ensures over.1, over.2)

pub returns-in_err-more-2-clause-reads : goal.returns-in_err-more-2-clause-reads
returns-in_err-more-2-clause-reads c =
    let p = err_from_is_err_and c.from_residual-in_err-more-2.result c.from_residual-in_err-more-2.ensures.1 in
    let fits = rw (c.next.ensures, c.as_slice.ensures) at c.in_default-exceeded_by_name.ensures in
    rw (p.1, p.2) (λ of. behind_name_fails of c.args.before c.in-Some.pos c.in-Some.text.now c.in-Some.rest.now c.args.tokens.now c.in_err-more-2.field-0.0 c.in-Some.ensures fits c.in_err-more-2.ensures.reads)

pub returns-clause-reads : goal.returns-clause-reads
returns-clause-reads c =
    let fits = rw (c.next.ensures, c.as_slice.ensures) at c.in_default-exceeded_by_name.ensures in
    rw c.in_ok-named.ensures (λ of. named_parameter of c.args.before _ c.in_ok-more-2.more c.in-Some.rest.now c.in_ok-more-2.rest.now c.args.tokens.now c.in-Some.ensures fits c.in_ok-more-2.ensures.reads)
