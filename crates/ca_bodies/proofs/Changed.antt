-- One of a list in another form.
use Rattle.std.proofs.Common.{◌≡◌, ℕ, zero, suc, ◌≤◌, List, [], ◌∷◌, map, length, refl, ap, ◌∙◌, arith}
use Rattle.std.specs.Prelude.{slice_set}
use Rattle.std.specs.List.{HoldsAt}
use Rattle.ca_model.specs.typing.Scopes.{FunctionOf}
use Rattle.ca_model.specs.typing.Signatures.{changed_at}

-- behind the end there is nothing to change
pub changed_past : {A : Type 0} (show : A → FunctionOf) (go : FunctionOf → FunctionOf) (xs : List A) (i : ℕ) → length xs ≤ i → changed_at i go (map show xs) ≡ map show xs
changed_past show go [] i past = refl
changed_past show go (x ∷ xs) zero past = absurd (omega (arith, past))
changed_past show go (x ∷ xs) (suc i) past = ap (λ (fs : List FunctionOf). show x ∷ fs) (changed_past show go xs i (omega (arith, past)))

pub changed_there : {A : Type 0} (show : A → FunctionOf) (go : FunctionOf → FunctionOf) (xs : List A) (i : ℕ) (x y : A) → HoldsAt (λ z. x ≡ z) xs i → show y ≡ go (show x) → map show (slice_set xs i y) ≡ changed_at i go (map show xs)
changed_there show go [] i x y at is = refl
changed_there {A = A} show go (z ∷ zs) zero x y at is = ap (λ (f : FunctionOf). f ∷ map show zs) (is ∙ ap (λ (x : A). go (show x)) (at z))
changed_there show go (z ∷ zs) (suc i) x y at is = ap (λ (fs : List FunctionOf). show z ∷ fs) (changed_there show go zs i x y at is)
