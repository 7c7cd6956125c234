-- Texts are cut at the first byte of a kind in one way, and numbers have no other bytes than digits and a sign.
use Rattle.std.proofs.Common.{◌≡◌, ◌<◌, ◌≤◌, ◌+◌, ◌-◌, ◌^◌, ℕ, suc, ℤ, pos, negsuc, List, [], ◌∷◌, ◌++◌, length, length-drop, take, drop, Bool, true, false, not, ◌&&◌, ◌==◌, refl, sym, ap, ◌∙◌, arith, ◌⊎◌, ◌≢◌}
use Rattle.std.specs.List.{list_all, prefix_len}
use Rattle.std.specs.Fmt.{decimal, signed_decimal}
use Rattle.std.specs.Str.Parse.{AllDigits}
use Rattle.std.specs.Int.Signed.{mag}
use Rattle.std.proofs.lemmas.Bool.{and_parts, and_from, eq-eqb, ne_eqb}
use Rattle.std.proofs.lemmas.Bool.Decides.{nat_tests}
use Rattle.std.proofs.lemmas.List.{take_all}
use Rattle.std.proofs.lemmas.List.Folds.{list_all-append}
use Rattle.std.proofs.lemmas.Fmt.{decimal_is_IsNumeral}
use Rattle.std.proofs.lemmas.Str.Parse.{digit_from_value}
use Rattle.ca_traces.specs.Finding.{lacks, IsCut}

pub lacks_head : (c b : ℕ) (bs : List ℕ) → lacks c (b ∷ bs) ≡ true → b ≡ c → ⊥
lacks_head c b bs h same =
    let t = and_parts (not (b == c)) (lacks c bs) h in
    let tested : not (b == c) ≡ true = t.0 in
    let meets : (b == c) ≡ true = eq-eqb b c same in
    cc

pub lacks_tail : (c b : ℕ) (bs : List ℕ) → lacks c (b ∷ bs) ≡ true → lacks c bs ≡ true
lacks_tail c b bs h = (and_parts (not (b == c)) (lacks c bs) h).1

pub lacks_more : (c b : ℕ) (bs : List ℕ) → (b ≡ c → ⊥) → lacks c bs ≡ true → lacks c (b ∷ bs) ≡ true
lacks_more c b bs other h = rw (ne_eqb b c other) h

pub lacks_append : (c : ℕ) (xs ys : List ℕ) → lacks c xs ≡ true → lacks c ys ≡ true → lacks c (xs ++ ys) ≡ true
lacks_append c xs ys p q = list_all-append (λ b. not (b == c)) xs ys ∙ and_from (lacks c xs) (lacks c ys) p q

-- a text with the byte in it
pub has_it : (c : ℕ) (xs ys : List ℕ) → lacks c (xs ++ c ∷ ys) ≡ true → ⊥
has_it c [] ys h = lacks_head c c ys h refl
has_it c (x ∷ xs) ys h = has_it c xs ys (lacks_tail c x (xs ++ c ∷ ys) h)

pub one_cut : (c : ℕ) (xs ys u v : List ℕ) → lacks c xs ≡ true → lacks c ys ≡ true → xs ++ c ∷ u ≡ ys ++ c ∷ v → (xs ≡ ys) × (u ≡ v)
one_cut c [] [] u v p q e = (refl, cc)
one_cut c [] (y ∷ ys) u v p q e = absurd (lacks_head c y ys q cc)
one_cut c (x ∷ xs) [] u v p q e = absurd (lacks_head c x xs p cc)
one_cut c (x ∷ xs) (y ∷ ys) u v p q e =
    let same : x ≡ y = cc in
    let left : xs ++ c ∷ u ≡ ys ++ c ∷ v = cc in
    let t = one_cut c xs ys u v (lacks_tail c x xs p) (lacks_tail c y ys q) left in
    let front : xs ≡ ys = t.0 in
    (cc, t.1)

-- whether a text begins with these bytes
abbrev pub begins : List ℕ → List ℕ → Bool
begins [] text = true
begins (p ∷ ps) [] = false
begins (p ∷ ps) (b ∷ bs) = (p == b) && begins ps bs

-- what `cut` finds

run_more : (p : ℕ → Bool) (c : ℕ) (cs : List ℕ) → p c ≡ true → prefix_len p (c ∷ cs) ≡ suc (prefix_len p cs)
run_more p c cs h = rw h (omega arith)

run_none : (p : ℕ → Bool) (c : ℕ) (cs : List ℕ) → p c ≡ false → prefix_len p (c ∷ cs) ≡ 0
run_none p c cs h = rw h refl

run_passes_step : (p : ℕ → Bool) (c : ℕ) (cs : List ℕ) (b : Bool) → p c ≡ b → list_all p (take (prefix_len p cs) cs) ≡ true → list_all p (take (prefix_len p (c ∷ cs)) (c ∷ cs)) ≡ true
run_passes_step p c cs true e ih = rw (run_more p c cs e, e) ih
run_passes_step p c cs false e ih = rw (run_none p c cs e) refl

pub run_passes : (p : ℕ → Bool) (cs : List ℕ) → list_all p (take (prefix_len p cs) cs) ≡ true
run_passes p [] = refl
run_passes p (c ∷ cs) = run_passes_step p c cs (p c) refl (run_passes p cs)

equal_byte : (c b : ℕ) → not (b == c) ≡ false → b ≡ c
equal_byte c b h = grind (arith, nat_tests)

run_stops_step : (c b : ℕ) (bs : List ℕ) (test : Bool) → not (b == c) ≡ test → (prefix_len (λ b. not (b == c)) bs < length bs → bs ≡ take (prefix_len (λ b. not (b == c)) bs) bs ++ c ∷ drop (suc (prefix_len (λ b. not (b == c)) bs)) bs) → prefix_len (λ b. not (b == c)) (b ∷ bs) < length (b ∷ bs) → b ∷ bs ≡ take (prefix_len (λ b. not (b == c)) (b ∷ bs)) (b ∷ bs) ++ c ∷ drop (suc (prefix_len (λ b. not (b == c)) (b ∷ bs))) (b ∷ bs)
run_stops_step c b bs true e ih h =
    let n : ℕ = prefix_len (λ b. not (b == c)) bs in
    let more : prefix_len (λ b. not (b == c)) (b ∷ bs) ≡ suc n = run_more (λ b. not (b == c)) b bs e in
    let within : n < length bs = omega (arith, more, h) in
    rw more (ap (λ t. b ∷ t) (ih within))
run_stops_step c b bs false e ih h =
    let none : prefix_len (λ b. not (b == c)) (b ∷ bs) ≡ 0 = run_none (λ b. not (b == c)) b bs e in
    rw none (ap (λ x. x ∷ bs) (equal_byte c b e))

run_stops : (c : ℕ) (bs : List ℕ) → prefix_len (λ b. not (b == c)) bs < length bs → bs ≡ take (prefix_len (λ b. not (b == c)) bs) bs ++ c ∷ drop (suc (prefix_len (λ b. not (b == c)) bs)) bs
run_stops c [] h = absurd (omega arith)
run_stops c (b ∷ bs) h = run_stops_step c b bs (not (b == c)) refl (run_stops c bs) h

pub cut_found : (c : ℕ) (bs : List ℕ) (n : ℕ) → n ≡ prefix_len (λ b. not (b == c)) bs → n < length bs → IsCut c bs (take n bs) (take (length bs - (n + 1)) (drop (n + 1) bs))
cut_found c bs n e h =
    let within : prefix_len (λ b. not (b == c)) bs < length bs = omega (arith, e, h) in
    let whole : take (length bs - (n + 1)) (drop (n + 1) bs) ≡ drop (n + 1) bs = take_all (length bs - (n + 1)) (drop (n + 1) bs) (omega (arith, length-drop (n + 1) bs)) in
    let next : n + 1 ≡ suc n = omega arith in
    let front : lacks c (take n bs) ≡ true = rw e (run_passes (λ b. not (b == c)) bs) in
    let text : bs ≡ take n bs ++ c ∷ drop (suc n) bs = rw e (run_stops c bs within) in
    (front, text ∙ ap (λ t. take n bs ++ c ∷ t) (ap (λ k. drop k bs) (sym next) ∙ sym whole))

pub cut_none : (c : ℕ) (bs : List ℕ) (n : ℕ) → n ≡ prefix_len (λ b. not (b == c)) bs → length bs ≤ n → lacks c bs ≡ true
cut_none c bs n e h =
    let whole : take n bs ≡ bs = take_all n bs h in
    let front : lacks c (take n bs) ≡ true = rw e (run_passes (λ b. not (b == c)) bs) in
    rw whole at front

-- numbers

lacks_digits : (c : ℕ) (ds : List ℕ) → (c < 48) ⊎ (57 < c) → AllDigits 10 ds → lacks c ds ≡ true
lacks_digits c [] far h = refl
lacks_digits c (d ∷ ds) far h =
    let range = digit_from_value d h.0 in
    lacks_more c d ds (λ same. absurd (omega arith)) (lacks_digits c ds far h.1)

pub lacks_decimal : (c n : ℕ) → (c < 48) ⊎ (57 < c) → n < 2 ^ 64 → lacks c (decimal n) ≡ true
lacks_decimal c n far small = lacks_digits c (decimal n) far (decimal_is_IsNumeral n small).0.1

pub lacks_signed : (c : ℕ) (z : ℤ) → c ≢ 45 → (c < 48) ⊎ (57 < c) → mag z < 2 ^ 63 → lacks c (signed_decimal z) ≡ true
lacks_signed c (pos n) other far small = lacks_decimal c n far (omega arith)
lacks_signed c (negsuc n) other far small = lacks_more c 45 (decimal (suc n)) (λ same. other (sym same)) (lacks_decimal c (suc n) far (omega arith))
