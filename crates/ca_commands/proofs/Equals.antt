-- A word with a `=` in it, and one without.
use Rattle.std.proofs.Common.{◌≡◌, ◌<◌, ℕ, ◌+◌, Bool, true, false, cond, List, [], ◌∷◌, ◌++◌, length, get_or, refl, ap, ◌∙◌, subst, arith}
use Rattle.std.specs.Prelude.{◌||◌, not, codes}
use Rattle.std.specs.List.{before_first, after_first, list_any, position_or_len}
use Rattle.std.proofs.lemmas.Bool.{eqb-true}
use Rattle.std.proofs.lemmas.List.Sums.{split_at_first, passes_at_first}
use Rattle.ca_commands.specs.Gathering.{is_equals}

-- there is one exactly where the first place of one is in the word
abbrev IsThere : List ℕ → Bool → Type 0
IsThere w true = position_or_len is_equals w < length w
IsThere w false = position_or_len is_equals w ≡ length w

there_behind : (c : ℕ) (w : List ℕ) (b : Bool) (any : Bool) → is_equals c ≡ b → IsThere w any → IsThere (c ∷ w) (b || any)
there_behind c w true any is there = let first : position_or_len is_equals (c ∷ w) ≡ 0 = ap (λ b. cond (not b) (1 + position_or_len is_equals w) 0) is in rw first (omega arith)
there_behind c w false true is there =
    let next : position_or_len is_equals (c ∷ w) ≡ 1 + position_or_len is_equals w = ap (λ b. cond (not b) (1 + position_or_len is_equals w) 0) is in rw next (omega (arith, there))
there_behind c w false false is there =
    let next : position_or_len is_equals (c ∷ w) ≡ 1 + position_or_len is_equals w = ap (λ b. cond (not b) (1 + position_or_len is_equals w) 0) is in
    let more : 1 + position_or_len is_equals w ≡ length (c ∷ w) = omega (arith, there) in next ∙ more

there_is : (w : List ℕ) → IsThere w (list_any is_equals w)
there_is [] = refl
there_is (c ∷ w) = there_behind c w (is_equals c) (list_any is_equals w) refl (there_is w)

pub has_equals : (w : List ℕ) → position_or_len is_equals w < length w → list_any is_equals w ≡ true
has_equals w here = elim (list_any is_equals w) as (λ b. IsThere w b → b ≡ true) [ true ↦ λ h. refl | false ↦ λ h. absurd (omega (arith, here, h)) ] (there_is w)

pub no_equals : (w : List ℕ) → position_or_len is_equals w ≡ length w → list_any is_equals w ≡ false
no_equals w none = elim (list_any is_equals w) as (λ b. IsThere w b → b ≡ false) [ true ↦ λ h. absurd (omega (arith, none, h)) | false ↦ λ h. refl ] (there_is w)

-- the word round its first `=`
pub round_equals : (w : List ℕ) → list_any is_equals w ≡ true → w ≡ before_first is_equals w ++ (codes "=" ++ after_first is_equals w)
round_equals w any =
    let here : position_or_len is_equals w < length w = subst (IsThere w) any (there_is w) in
    let byte : get_or w (position_or_len is_equals w) 0 ≡ 61 = eqb-true (get_or w (position_or_len is_equals w) 0) 61 (passes_at_first is_equals w 0 here) in
    split_at_first is_equals w 0 here ∙ ap (λ c. before_first is_equals w ++ (c ∷ after_first is_equals w)) byte
