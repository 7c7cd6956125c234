-- The parts of a printed text.
use Rattle.std.proofs.Common.{arith, ◌≡◌, ◌<◌, ◌-◌, ℕ, zero, suc, Bool, List, [], ◌∷◌, ◌++◌, length, take, drop, refl, sym, ap, ◌∙◌, append_assoc}
use Rattle.std.specs.Prelude.{slice_index, if◌then◌else◌, ◌==◌}
use Rattle.std.proofs.lemmas.Bool.{eq-eqb, ne_eqb}
use Rattle.ca_model.specs.declared.values.Value.{Value}
use Rattle.ca_model.specs.Printed.{written, first_written, rest_of}

take_all : (n : ℕ) (ys : List ℕ) → n ≡ length ys → take n ys ≡ ys
take_all zero [] e = refl
take_all zero (y ∷ ys) e = absurd (let no : ⊥ = omega (arith, e) in no)
take_all (suc n) [] e = refl
take_all (suc n) (y ∷ ys) e = ap (λ l. y ∷ l) (take_all n ys (omega (arith, e)))

-- a byte that isn't a percent
pub plain : (fmt out new : List ℕ) (xs : List Value) → 0 < length fmt → (length fmt ≡ 1 → ⊥) → (slice_index fmt 0 ≡ 37 → ⊥) → new ≡ out ++ slice_index fmt 0 ∷ [] → new ++ written (take (length fmt - 1) (drop 1 fmt)) xs ≡ out ++ written fmt xs
plain [] out new xs some one other is = absurd (omega (arith, some))
plain (b ∷ []) out new xs some one other is = absurd (one refl)
plain (b ∷ d ∷ more) out new xs some one other is =
    let rest : take (suc (suc (length more)) - 1) (d ∷ more) ≡ d ∷ more = take_all (suc (suc (length more)) - 1) (d ∷ more) (omega arith) in
    ap (λ l. new ++ written l xs) rest ∙ (ap (λ l. l ++ written (d ∷ more) xs) is ∙ (append_assoc out (b ∷ []) (written (d ∷ more) xs)
    ∙ ap (λ (c : Bool). out ++ (if c then (if d == 37 then 37 ∷ written more xs else first_written xs ++ written more (rest_of xs)) else b ∷ written (d ∷ more) xs)) (sym (ne_eqb b 37 other))))

-- two percents
pub doubled : (fmt out new : List ℕ) (xs : List Value) → 0 < length fmt → (length fmt ≡ 1 → ⊥) → slice_index fmt 0 ≡ 37 → slice_index fmt 1 ≡ 37 → new ≡ out ++ slice_index fmt 0 ∷ [] → new ++ written (take (length fmt - 2) (drop 2 fmt)) xs ≡ out ++ written fmt xs
doubled [] out new xs some one first second is = absurd (omega (arith, some))
doubled (b ∷ []) out new xs some one first second is = absurd (one refl)
doubled (b ∷ d ∷ more) out new xs some one first second is =
    let rest : take (suc (suc (length more)) - 2) more ≡ more = take_all (suc (suc (length more)) - 2) more (omega arith) in
    ap (λ l. new ++ written l xs) rest ∙ (ap (λ l. l ++ written more xs) (is ∙ ap (λ n. out ++ n ∷ []) first) ∙ (append_assoc out (37 ∷ []) (written more xs)
    ∙ (ap (λ (c : Bool). out ++ (if c then 37 ∷ written more xs else first_written xs ++ written more (rest_of xs))) (sym (eq-eqb d 37 second))
    ∙ ap (λ (c : Bool). out ++ (if c then (if d == 37 then 37 ∷ written more xs else first_written xs ++ written more (rest_of xs)) else b ∷ written (d ∷ more) xs)) (sym (eq-eqb b 37 first)))))

-- a percent and something else
pub argument : (fmt out new : List ℕ) (xs ys : List Value) → 0 < length fmt → (length fmt ≡ 1 → ⊥) → slice_index fmt 0 ≡ 37 → (slice_index fmt 1 ≡ 37 → ⊥) → new ≡ out ++ first_written xs → ys ≡ rest_of xs
    → new ++ written (take (length fmt - 2) (drop 2 fmt)) ys ≡ out ++ written fmt xs
argument [] out new xs ys some one first other is left = absurd (omega (arith, some))
argument (b ∷ []) out new xs ys some one first other is left = absurd (one refl)
argument (b ∷ d ∷ more) out new xs ys some one first other is left =
    let rest : take (suc (suc (length more)) - 2) more ≡ more = take_all (suc (suc (length more)) - 2) more (omega arith) in
    ap (λ l. new ++ written l ys) rest ∙ (ap (λ l. l ++ written more ys) is ∙ (ap (λ zs. (out ++ first_written xs) ++ written more zs) left ∙ (append_assoc out (first_written xs) (written more (rest_of xs))
    ∙ (ap (λ (c : Bool). out ++ (if c then 37 ∷ written more xs else first_written xs ++ written more (rest_of xs))) (sym (ne_eqb d 37 other))
    ∙ ap (λ (c : Bool). out ++ (if c then (if d == 37 then 37 ∷ written more xs else first_written xs ++ written more (rest_of xs)) else b ∷ written (d ∷ more) xs)) (sym (eq-eqb b 37 first))))))
