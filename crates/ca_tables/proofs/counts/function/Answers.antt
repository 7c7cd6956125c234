use Rattle.std.proofs.Common.{List, ap, ◌∙◌}
use Rattle.ca_model.specs.declared.tree.Stmt.{Stmt}
use Rattle.ca_model.specs.Sites.{items_in_all}
use Rattle.ca_tables.specs.Counted.{count_items}
use Rattle.ca_tables.proofs.CountedItems.{counted_function}
use Rattle.ca_tables.proofs.counts.function.Goals as goal

pub returns : goal.returns
returns c =
    counted_function c.args.function.now c.args.counting.now c.statements.new.counting c.pass.new.self
    (c.in_ok-statements.ensures ∙ ap (λ (xs : List Stmt). count_items c.args.counting.now (items_in_all xs)) c.as_slice.ensures) c.in_ok-pass.ensures
