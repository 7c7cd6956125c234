-- An access that reaches a cell has the number of that cell.
use Rattle.std.proofs.Common.{◌≡◌, ◌≤◌, ◌<◌, ℕ, ℤ, pos, negsuc, Bool, true, false, Option, Some, None, length, refl, ap, arith, inl, inr}
use Rattle.std.specs.Prelude.{slice_get, IsSome, is_some, List}
use Rattle.std.specs.FinMap as finite
use Rattle.std.proofs.lemmas.Bool.{cases_order}
use Rattle.std.proofs.lemmas.Option.{slice_get_past}
use Rattle.ca_model.specs.declared.values.Value.{Value}
use Rattle.ca_model.specs.declared.values.Value.TheVariants as v
use Rattle.ca_model.specs.Shared.{Blocks, Block, if_live, cell_at, reached}
use Rattle.ca_memory.specs.Kept.{most_cells, AreShort}
use Rattle.ca_memory.specs.Zeros.{IsNear}

abbrev HasNumber : ℤ → Type 0
HasNumber z = (n : ℕ) × (z ≡ pos n) × (n < most_cells)

none_past : (xs : List Value) (n : ℕ) → length xs ≤ n → IsSome (slice_get xs n) → ⊥
none_past xs n past h = let none : is_some (slice_get xs n) ≡ false = ap is_some (slice_get_past xs n past) in absurd cc

within : (b : Block) (n : ℕ) → length b.cells ≤ most_cells → IsSome (slice_get b.cells n) → n < most_cells
within b n short h = elim (cases_order n (length b.cells)) [
  | inl is ↦ absurd (none_past b.cells n (omega (arith, is)) h)
  | inr (inl lt) ↦ omega (arith, lt, short)
  | inr (inr gt) ↦ absurd (none_past b.cells n (omega (arith, gt)) h)
]

by_live : (b : Block) (l : Bool) (z : ℤ) → length b.cells ≤ most_cells → IsSome (cell_at (elim l [ true ↦ Some b | false ↦ None ]) z) → HasNumber z
by_live b true (pos n) short h = (n, refl, within b n short h)
by_live b true (negsuc n) short h = absurd cc
by_live b false z short h = absurd cc

by_block : (o : Option Block) (z : ℤ) → ((x : Block) → o ≡ Some x → length x.cells ≤ most_cells) → IsSome (cell_at (if_live o) z) → HasNumber z
by_block None z short h = absurd cc
by_block (Some b) z short h = by_live b b.live z (short b refl) h

pub near : (m : Blocks) (at : Value) (by : ℤ) → AreShort m → IsSome (reached m at by) → IsNear at by
near m (v.Num n) by short h = absurd cc
near m (v.Addr a) by short h = by_block (finite.get m a.block) _ (short a.block) h
