use Rattle.std.proofs.Common.{◌≡◌, ◌+◌, ℕ, List}
use Rattle.ca_model.specs.declared.tree.GlobalStart.{GlobalStart}
use Rattle.ca_model.specs.typing.Known.{Known}
use Rattle.ca_model.specs.typing.Globals.{with_mutex}
use Rattle.ca_types.specs.Holds.{Holds}
use Rattle.ca_types.proofs.Holding.{SoFar}
use Rattle.ca_types.proofs.globals.mutex_list.Given as goal

abbrev pub invariant-loop-declarator : goal.invariant-loop-declarator
invariant-loop-declarator l = (l.mutexes ≡ l.fn.mutexes + l.declarator-index)
    × ((k : Known) (starts : List GlobalStart) (cells : ℕ) → Holds k l.fn.scope starts cells l.fn.mutexes l.fn.faults.first → SoFar with_mutex k l.declarators l.declarator-index l.scope starts cells l.mutexes l.faults.first)
