use Rattle.std.proofs.lemmas.Result.{err_from_is_err_and}
use Rattle.ca_grammar.specs.Goals.{More_threads}
use Rattle.ca_tree.specs.declared.counted.Counted.TheVariants as counted
use Rattle.ca_expressions.proofs.Counts.{kept_next}
use Rattle.ca_statements.proofs.locals.next_thread.Goals as goal

pub returns-in_err-name-clause-reads : goal.returns-in_err-name-clause-reads
returns-in_err-name-clause-reads c =
    let p = err_from_is_err_and c.from_residual.result c.from_residual.ensures.1 in
    rw (p.1, p.2) ((rw c.next_item.ensures at c.in_err-name.ensures.reads) (More_threads c.args.items) _)

pub item-requires : goal.item-requires
item-requires c = kept_next counted.Items c.args.items (rw c.next_item.ensures at c.in_ok-name.ensures.kept)

pub returns-clause-room : goal.returns-clause-room
returns-clause-room c = kept_next counted.Items c.args.items (rw c.next_item.ensures at c.in_ok-name.ensures.kept)

pub returns-clause-reads : goal.returns-clause-reads
returns-clause-reads c = λ o d. (rw c.next_item.ensures at c.in_ok-name.ensures.reads) (More_threads c.args.items) _ o (rw c.item.ensures at d)
