use Rattle.std.proofs.Common.{◌≡◌, ◌++◌, map, drop}
use Rattle.ca_model.specs.Sites.{items_in_all}
use Rattle.ca_plan.proofs.places.+statement.Given as goal

abbrev pub invariant-statements-loop-stmt : goal.invariant-statements-loop-stmt
invariant-statements-loop-stmt l = l.places.items ++ map (λ i. i.pos) (items_in_all (drop l.stmt-index l.fn.stmts)) ≡ l.fn.places.items ++ map (λ i. i.pos) (items_in_all l.fn.stmts)
