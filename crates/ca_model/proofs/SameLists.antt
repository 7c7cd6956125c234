-- Lists that ascend, and lists with the same elements.
use Rattle.std.proofs.Common.{arith, ◌≡◌, ℕ, zero, suc, ◌<◌, List, [], ◌∷◌, map, length, refl, sym, ap, ◌∙◌, subst, inl, inr}
use Rattle.std.proofs.Math.ListN.{length-map}
use Rattle.std.specs.Prelude.{Contains, ◌⊎◌, slice_index_or, AllPairs}
use Rattle.std.specs.List.Sorted.{IsStrictlyIncreasing}
use Rattle.std.proofs.lemmas.List.{get_or-map, map-id}
use Rattle.std.proofs.lemmas.List.Kept.{AllPairs-from_increasing}
use Rattle.ca_model.proofs.Members.{in_none, in_cons, at_head, at_tail}

-- the first element against a later one, and the later ones against each other
pub head_pairs : {X : Type 0} (R : X → X → Type 0) (x : X) (xs : List X) (y : X) → AllPairs R (x ∷ xs) → Contains xs y → R x y
head_pairs R x xs y h (k, lt, e) = subst (λ z. R x z) e (h zero (suc k) y (omega arith) (omega (arith, lt)))

pub tail_pairs : {X : Type 0} (R : X → X → Type 0) (x : X) (xs : List X) → AllPairs R (x ∷ xs) → AllPairs R xs
tail_pairs R x xs h i j d lt within = h (suc i) (suc j) d (omega (arith, lt)) (omega (arith, within))

-- each element of the first list is one of the second
abbrev pub HasAll : {X : Type 0} → List X → List X → Type 0
HasAll {X} xs ys = (x : X) → Contains xs x → Contains ys x

module _ {A : Type 0} (key : A → ℕ) where
  -- each element has a greater number than those before it
  abbrev Ascends : List A → Type 0
  Ascends [] = Unit {0}
  Ascends (x ∷ xs) = ((y : A) → Contains xs y → key x < key y) × Ascends xs

  ascends : (xs : List A) → AllPairs (λ m n. m < n) (map key xs) → Ascends xs
  ascends [] pairs = tt
  ascends (x ∷ xs) pairs = ((λ y (k, lt, is). below y k lt is), ascends xs (λ i j d lt le. pairs (suc i) (suc j) d (omega arith) (omega arith)))
    where
      below : (y : A) (k : ℕ) → k < length xs → slice_index_or xs k y ≡ y → key x < key y
      below y k lt is =
          let at : slice_index_or (map key xs) k (key y) ≡ key y = get_or-map key xs k y (key y) lt ∙ ap key is in
          let h : key x < slice_index_or (map key xs) k (key y) = pairs 0 (suc k) (key y) (omega arith) (omega (arith, length-map xs key)) in
          omega arith

  -- two such lists with the same elements are one
  same_list : (xs ys : List A) → Ascends xs → Ascends ys → HasAll xs ys → HasAll ys xs → xs ≡ ys
  same_list [] [] p q there back = refl
  same_list [] (y ∷ ys) p q there back = absurd (in_none y (back y (at_head y ys)))
  same_list (x ∷ xs) [] p q there back = absurd (in_none x (there x (at_head x xs)))
  same_list (x ∷ xs) (y ∷ ys) p q there back =
      let same : x ≡ y = heads (in_cons y ys x (there x (at_head x xs))) (in_cons x xs y (back y (at_head y ys))) in
      let rest : xs ≡ ys = same_list xs ys p.1 q.1
      (λ z c. within x y z ys (p.0 z c) same (in_cons y ys z (there z (at_tail x xs z c))))
      (λ z c. within y x z xs (q.0 z c) (sym same) (in_cons x xs z (back z (at_tail y ys z c)))) in
      λ i. same i ∷ rest i
    where
      heads : (y ≡ x) ⊎ Contains ys x → (x ≡ y) ⊎ Contains xs y → x ≡ y
      heads (inl is) other = sym is
      heads (inr more) (inl is) = is
      heads (inr more) (inr also) = let a : key y < key x = q.0 x more in let b : key x < key y = p.0 y also in absurd (omega arith)

      within : (x y z : A) (ys : List A) → key x < key z → x ≡ y → (y ≡ z) ⊎ Contains ys z → Contains ys z
      within x y z ys lt is (inl here) = let e : key x ≡ key z = ap key (is ∙ here) in absurd (omega arith)
      within x y z ys lt is (inr there) = there

  pub one_list : (xs ys : List A) → IsStrictlyIncreasing (map key xs) → IsStrictlyIncreasing (map key ys) → HasAll xs ys → HasAll ys xs → xs ≡ ys
  one_list xs ys p q = same_list xs ys (ascends xs (AllPairs-from_increasing (map key xs) p)) (ascends ys (AllPairs-from_increasing (map key ys) q))

pub same_ascending : (xs ys : List ℕ) → IsStrictlyIncreasing xs → IsStrictlyIncreasing ys → HasAll xs ys → HasAll ys xs → xs ≡ ys
same_ascending xs ys up down = one_list (λ n. n) xs ys (subst IsStrictlyIncreasing (sym (map-id xs)) up) (subst IsStrictlyIncreasing (sym (map-id ys)) down)
