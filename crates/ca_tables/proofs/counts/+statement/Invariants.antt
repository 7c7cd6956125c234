use Rattle.std.proofs.Common.{◌≡◌, drop}
use Rattle.ca_model.specs.Sites.{items_in_all}
use Rattle.ca_tables.specs.Counted.{count_items}
use Rattle.ca_tables.proofs.counts.+statement.Given as goal

abbrev pub invariant-statements-loop-stmt : goal.invariant-statements-loop-stmt
invariant-statements-loop-stmt l = count_items l.counting (items_in_all (drop l.stmt-index l.fn.stmts)) ≡ count_items l.fn.counting (items_in_all l.fn.stmts)
