use Rattle.std.proofs.Common.{◌≡◌, ◌≤◌, length, drop}
use Rattle.ca_memory.specs.Kept.{blocks_of}
use Rattle.ca_model.specs.Opening.{globals_from}
use Rattle.ca_memory.proofs.blocks.globals.Given as goal

abbrev pub invariant-globals : goal.invariant-globals
invariant-globals l = (l.left ≤ length l.globals) × (blocks_of l.table.entries ≡ globals_from l.left (drop l.left l.globals))

abbrev pub decreases-globals : goal.decreases-globals
decreases-globals l = l.left
