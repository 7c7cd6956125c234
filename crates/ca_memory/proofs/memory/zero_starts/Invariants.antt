use Rattle.std.proofs.Common.{◌≡◌, map, take}
use Rattle.ca_memory.specs.Zeros.{zeroed}
use Rattle.ca_memory.proofs.memory.zero_starts.Given as goal

abbrev pub invariant-globals : goal.invariant-globals
invariant-globals l = l.starts.items ≡ map zeroed (take l.cells-index l.globals)
