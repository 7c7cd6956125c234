use Rattle.std.proofs.Common.{◌≡◌, drop}
use Rattle.ca_model.specs.Sites.{items_in_all}
use Rattle.ca_flow.specs.Tables.{with_items}
use Rattle.ca_flow.proofs.uses.+statement.Given as goal

abbrev pub invariant-statements-loop-stmt : goal.invariant-statements-loop-stmt
invariant-statements-loop-stmt l = with_items l.fn.function l.uses (items_in_all (drop l.stmt-index l.fn.stmts)) ≡ with_items l.fn.function l.fn.uses (items_in_all l.fn.stmts)
