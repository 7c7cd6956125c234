-- Each number up to that of the last item is an item's.
use Rattle.std.proofs.Common.{◌≡◌, ◌<◌, ◌≤◌, ◌+◌, ◌-◌, ℕ, zero, suc, List, [], ◌∷◌, length, Some, arith, refl, ap}
use Rattle.std.specs.Prelude.{Contains, slice_get}
use Rattle.ca_model.specs.declared.tree.Item.{Item}
use Rattle.ca_model.specs.Codes.{Typed}
use Rattle.ca_model.specs.Sites.{all_items}
use Rattle.ca_model.specs.Plans.{IsItem}
use Rattle.ca_model.specs.WellFormed.{IsWellFormed}
use Rattle.ca_model.proofs.Members.{at_head, at_tail}

standing : (xs : List Item) (k : ℕ) → k < length xs → (x : Item) × (slice_get xs k ≡ Some x) × Contains xs x
standing [] k lt = absurd (omega (arith, lt))
standing (x ∷ xs) zero lt = (x, refl, at_head x xs)
standing (x ∷ xs) (suc k) lt = let h = standing xs k (omega (arith, lt)) in (h.0, h.1, at_tail x xs h.0 h.2)

pub item_there : (p : Typed) (n : ℕ) → IsWellFormed p → 0 < n → n ≤ length (all_items p.functions) → (x : Item) × IsItem p x (record { 0 = n })
item_there p n formed above within =
    let h = standing (all_items p.functions) (n - 1) (omega (arith, above, within)) in
    let number : h.0.id.0 ≡ (n - 1) + 1 = formed.items (n - 1) h.0 h.1 in
    let same : h.0.id.0 ≡ n = omega (arith, number, above) in
    (h.0, (h.2, ap (λ m. record { 0 = m }) same))
