use Rattle.std.proofs.Common.{add-one}
use Rattle.std.proofs.lemmas.Result.{err_from_is_err_and}
use Rattle.ca_grammar.specs.Goals.{For_first}
use Rattle.ca_grammar.specs.Reads.{gives}
use Rattle.ca_statements.proofs.statements.first_simple.Goals as goal

pub returns-in_err-pos-clause-reads : goal.returns-in_err-pos-clause-reads
returns-in_err-pos-clause-reads c =
    let p = err_from_is_err_and c.from_residual.result c.from_residual.ensures.1 in
    rw (p.1, p.2) ((rw c.next_item.ensures at c.in_err-pos.ensures.reads) (For_first c.args.items) _)

pub returns-clause-reads : goal.returns-clause-reads
returns-clause-reads c = rw (c.item.ensures, add-one c.args.items) ((rw c.next_item.ensures at c.in_ok-pos.ensures.reads) (For_first c.args.items) _ _ gives)
