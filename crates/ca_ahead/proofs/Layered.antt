-- Layers of a search whose table, starts and flags are read through references.
use Rattle.std.proofs.Common.{◌≡◌, ◌+◌, ℕ, Bool, List, subst, arith}
use Rattle.std.specs.Global.{Vec}
use Rattle.std.specs.Prelude.{Contains, ◌↔◌}
use Rattle.ca_reach.specs.Reach.{rows_of, IsSet, Reached}
use Rattle.ca_model.specs.Codes.{Typed}
use Rattle.ca_ahead.specs.Onward.{FollowsMarked, Gains, EntersOne}
use Rattle.ca_ahead.proofs.Ahead.{IsTableOf, IsLayer, top_layer, next_layer}

module _ (p : Typed) (depth count : ℕ) (marked : List Bool) (vs d : List (Vec ℕ)) (is : IsTableOf p count (rows_of vs)) (d-is : d ≡ vs) (followers : List ℕ) (exact : (m : ℕ) → Contains followers m ↔ FollowsMarked (rows_of d) marked count m) where
  followers_are : (m : ℕ) → Contains followers m ↔ FollowsMarked (rows_of vs) marked count m
  followers_are = subst (λ x. (m : ℕ) → Contains followers m ↔ FollowsMarked (rows_of x) marked count m) d-is exact

  found_from : (e : List (Vec ℕ)) (read starts : List ℕ) (flags : List Bool) → e ≡ vs → read ≡ starts → ((n : ℕ) → IsSet flags n ↔ Reached (rows_of e) read n) → (n : ℕ) → IsSet flags n ↔ Reached (rows_of vs) starts n
  found_from e read starts flags e-is read-is found =
      subst (λ ss. (n : ℕ) → IsSet flags n ↔ Reached (rows_of vs) ss n) read-is (subst (λ x. (n : ℕ) → IsSet flags n ↔ Reached (rows_of x) read n) e-is found)

  -- the layers that are left, counted down
  abbrev pub IsAt : ℕ → List Bool → Type 0
  IsAt gone flags = (k : ℕ) → k + gone ≡ depth → IsLayer p depth marked k flags

  pub first_flags : (e : List (Vec ℕ)) (read : List ℕ) (flags : List Bool) → e ≡ vs → read ≡ followers → ((n : ℕ) → IsSet flags n ↔ Reached (rows_of e) read n) → IsAt 0 flags
  first_flags e read flags e-is read-is found k at =
      let same : depth ≡ k = omega (arith, at) in
      subst (λ j. IsLayer p depth marked j flags) same (top_layer p depth marked count (rows_of vs) is followers flags followers_are (found_from e read followers flags e-is read-is found))

  pub next_flags : (gone : ℕ) (above above' flags : List Bool) (followers' starts read : List ℕ) (e : List (Vec ℕ)) → IsAt gone above → followers' ≡ followers → above' ≡ above → Gains followers' starts (EntersOne p marked above' p.functions)
      → e ≡ vs → read ≡ starts → ((n : ℕ) → IsSet flags n ↔ Reached (rows_of e) read n) → IsAt (gone + 1) flags
  next_flags gone above above' flags followers' starts read e layers followers-are above-is gains e-is read-is found k at =
      next_layer p depth marked count (rows_of vs) is k followers starts above flags (omega (arith, at)) followers_are (layers (k + 1) (omega (arith, at)))
      (subst (λ (bs : List Bool). Gains followers starts (EntersOne p marked bs p.functions)) above-is (subst (λ xs. Gains xs starts (EntersOne p marked above' p.functions)) followers-are gains))
      (found_from e read starts flags e-is read-is found)
