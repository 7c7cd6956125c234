-- Blocks of globals, and an access to a cell.
use Rattle.std.specs.Prelude.{◌≡◌, ◌<◌, ℕ, ℤ, ◌+ℤ◌, pos, true, false, replicate, slice_set}
use Rattle.ca_model.specs.declared.tree.GlobalStart.{GlobalStart}
use Rattle.ca_model.specs.declared.values.Value.{Value}
use Rattle.ca_model.specs.declared.values.Value.TheVariants as v
use Rattle.ca_model.specs.Arith.{null}
use Rattle.ca_model.specs.Shared.{Blocks, Block, with_cell}
use Rattle.ca_memory.specs.Kept.{most_cells}

-- a global of so many cells, whose first cell opens with 0 too
abbrev pub zeroed : ℕ → GlobalStart
zeroed n = record { cells = n; first = null }

-- the block of a global: its first cell has its opening value, the others 0
abbrev pub global_block : GlobalStart → Block
global_block g = record { heap = false; live = true; cells = slice_set (replicate g.cells null) 0 g.first }

-- the same blocks but for the cell that an access reaches
abbrev pub stored : Blocks → Value → ℤ → Value → Blocks
stored m (v.Num n) by x = m
stored m (v.Addr a) by x = with_cell m (record { block = a.block; offset = a.offset +ℤ by }) x

-- an access reaches the cell of a number, which fits the offset of an address
abbrev pub IsNear : Value → ℤ → Type 0
IsNear (v.Num n) by = ⊥
IsNear (v.Addr a) by = (n : ℕ) × (a.offset +ℤ by ≡ pos n) × (n < most_cells)

-- the first cell of a block
abbrev pub start_of : ℕ → Value
start_of b = v.Addr (record { block = b; offset = pos 0 })
