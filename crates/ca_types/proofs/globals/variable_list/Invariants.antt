use Rattle.std.proofs.Common.{◌≡◌, ◌≤◌, ◌+◌, ◌*◌, ◌^◌, ℕ, length}
use Rattle.ca_model.specs.typing.Known.{Known}
use Rattle.ca_model.specs.typing.Globals.{with_variable}
use Rattle.ca_types.specs.Holds.{Holds}
use Rattle.ca_types.proofs.Holding.{SoFar}
use Rattle.ca_types.proofs.globals.variable_list.Given as goal

abbrev pub invariant-loop-declarator : goal.invariant-loop-declarator
invariant-loop-declarator l = (length l.starts.starts.items ≡ length l.fn.starts.starts.items + l.declarator-index) × (l.starts.cells ≤ length l.starts.starts.items * 2 ^ 37)
    × ((k : Known) (mutexes : ℕ) → Holds k l.fn.scope l.fn.starts.starts.items l.fn.starts.cells mutexes l.fn.faults.first
    → SoFar (with_variable l.fn.base) k l.declarators l.declarator-index l.scope l.starts.starts.items l.starts.cells mutexes l.faults.first)
