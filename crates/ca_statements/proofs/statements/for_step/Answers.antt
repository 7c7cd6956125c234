use Rattle.std.proofs.Common.{refl, add-one}
use Rattle.std.proofs.lemmas.Result.{err_from_is_err_and}
use Rattle.ca_grammar.specs.Goals.{For_step}
use Rattle.ca_grammar.specs.Reads.{takes, passes, gives}
use Rattle.ca_expressions.proofs.Following.{pass}
use Rattle.ca_statements.proofs.statements.for_step.Goals as goal

pub returns-in-Some-clause-reads : goal.returns-in-Some-clause-reads
returns-in-Some-clause-reads c = takes c.in-Some.ensures refl gives

pub returns-in_err-pos-clause-reads : goal.returns-in_err-pos-clause-reads
returns-in_err-pos-clause-reads c =
    let p = err_from_is_err_and c.from_residual.result c.from_residual.ensures.1 in
    rw (p.1, p.2) (pass c.in_err-pos.field-0.0 (λ r vs d. passes c.in_default.ensures d) ((rw c.next_item.ensures at c.in_err-pos.ensures.reads) (For_step c.args.items) _))

pub returns-clause-reads : goal.returns-clause-reads
returns-clause-reads c = rw (c.item.ensures, add-one c.args.items) (passes c.in_default.ensures ((rw c.next_item.ensures at c.in_ok-pos.ensures.reads) (For_step c.args.items) _ _ gives))
