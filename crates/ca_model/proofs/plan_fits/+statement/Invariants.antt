use Rattle.std.proofs.Common.{◌≡◌, drop}
use Rattle.ca_model.specs.Sites.{items_in_all}
use Rattle.ca_model.specs.Fitting.{behind_items}
use Rattle.ca_model.proofs.plan_fits.+statement.Given as goal

abbrev pub invariant-statements-loop-stmt : goal.invariant-statements-loop-stmt
invariant-statements-loop-stmt l = behind_items l.left (items_in_all (drop l.stmt-index l.fn.stmts)) ≡ behind_items l.fn.left (items_in_all l.fn.stmts)
