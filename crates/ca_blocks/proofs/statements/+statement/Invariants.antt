use Rattle.ca_tree.specs.declared.tree.Stmt.{Stmt}
use Rattle.ca_model.specs.typing.Bodies.{Inside}
use Rattle.ca_model.specs.typing.Statements.{told}
use Rattle.ca_blocks.proofs.Telling.{IsWhole}
use Rattle.ca_blocks.proofs.statements.+statement.Given as goal

abbrev pub invariant-statements-loop-stmt : goal.invariant-statements-loop-stmt
invariant-statements-loop-stmt l = IsWhole (λ (c : Inside) (x : Stmt). told x c) l.fn.stmts l.fn.inside l.fn.out.items l.fn.faults.first l.stmt-index l.inside l.out.items l.faults.first
