-- What the tables of a memory stand for.
use Rattle.std.specs.Prelude.{◌≡◌, ◌≤◌, ◌<◌, ◌^◌, ℕ, true, false, Bool, List, map, length, Some}
use Rattle.std.specs.FinMap as finite
use Rattle.ca_model.specs.declared.values.Value.{Value}
use Rattle.ca_model.specs.Shared.{Blocks, Block, live_cells}
use Rattle.ca_model.specs.Runner.{IsLeastUnused}
use Rattle.ca_memory.specs.declared.blocks.Slot.{Slot}
use Rattle.ca_memory.specs.declared.blocks.Cells.{Cells}
use Rattle.ca_memory.specs.declared.blocks.Cells.TheVariants as cells

-- a block that is dead has no cells at run time
abbrev pub is_live : Cells → Bool
is_live (cells.Live xs) = true
is_live (cells.Dead was) = false

abbrev pub cells_of : Cells → List Value
cells_of (cells.Live xs) = xs.items
cells_of (cells.Dead was) = was.value.items

abbrev pub block_of : Slot → Block
block_of s = record { heap = s.heap; live = is_live s.cells; cells = cells_of s.cells }

-- the blocks that the entries of a table are
abbrev pub blocks_of : List (ℕ × Slot) → Blocks
blocks_of es = finite.from_entries (map (λ e. (e.0, block_of e.1)) es)

-- each block has at most so many cells as the heap may have
abbrev pub most_cells : ℕ
most_cells = 2 ^ 20

abbrev pub AreShort : Blocks → Type 0
AreShort m = (b : ℕ) (x : Block) → finite.get m b ≡ Some x → length x.cells ≤ most_cells

-- the counts that are kept beside the table
pub record AreCounts (m : Blocks) (cells count least : ℕ) : Type 0 where
  pub live : cells ≡ live_cells m
  pub few_live : cells ≤ most_cells
  pub made : count ≡ finite.len m
  pub few_made : count < 2 ^ 32
  pub next : IsLeastUnused m least
  pub short : AreShort m
