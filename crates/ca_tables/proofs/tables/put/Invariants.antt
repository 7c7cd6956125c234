use Rattle.std.proofs.Common.{◌≡◌, ◌+◌, ◌-◌, ℕ, false, get_or}
use Rattle.std.specs.Vec.{vec_len}
use Rattle.ca_tables.proofs.tables.put.Given as goal

abbrev pub invariant-room : goal.invariant-room
invariant-room l = (n : ℕ) → get_or l.table.items n false ≡ get_or l.fn.table.items n false

abbrev pub decreases-room : goal.decreases-room
decreases-room l = (l.index + 1) - vec_len l.table
