use Rattle.std.proofs.Common.{◌≡◌, ◌≤◌, map, reverse, take, length}
use Rattle.ca_model.specs.typing.Scopes.{find}
use Rattle.ca_operands.specs.Shown.{shown_local}
use Rattle.ca_operands.proofs.scope.Scope.local.Given as goal

abbrev pub invariant-loop-left : goal.invariant-loop-left
invariant-loop-left l = (l.left ≤ length l.locals) × (find l.name (map shown_local (reverse l.locals)) ≡ find l.name (map shown_local (reverse (take l.left l.locals))))

abbrev pub decreases-loop-left : goal.decreases-loop-left
decreases-loop-left l = l.left
