-- Parts that are numbers up to one.
use Rattle.std.proofs.Common.{◌≡◌, ◌≤◌, ◌<◌, ℕ, zero, suc, List, [], ◌∷◌, map, length, get_or, arith}
use Rattle.std.specs.Prelude.{All}
use Rattle.std.specs.Fmt.{decimal}
use Rattle.std.proofs.lemmas.List.Elements.{All-head, All-tail}

-- each of them is the text of one
pub part_at : (most : ℕ) {B : Type 0} (f : B → List ℕ) (parts : List B) (ns : List ℕ) (i : ℕ) (d : B) → map f parts ≡ map decimal ns → i < length parts → All (λ n. n ≤ most) ns
    → (n : ℕ) × (f (get_or parts i d) ≡ decimal n) × (n ≤ most)
part_at most f [] ns i d same here all = absurd (omega (arith, here))
part_at most f (x ∷ xs) [] i d same here all = absurd cc
part_at most f (x ∷ xs) (n ∷ ns) zero d same here all = let first : f x ≡ decimal n = cc in (n, first, All-head (λ n. n ≤ most) n ns all)
part_at most f (x ∷ xs) (n ∷ ns) (suc i) d same here all = let rest : map f xs ≡ map decimal ns = cc in part_at most f xs ns i d rest (omega (arith, here)) (All-tail (λ n. n ≤ most) n ns all)
