-- The tokens before those that are left.
use Rattle.std.proofs.Common.{◌≡◌, suc, ◌-◌, List, [], ◌∷◌, ◌++◌, length, take, Some, slice_get, refl, sym, ap, subst, ◌∙◌, arith, length-append}
use Rattle.std.proofs.Math.Seq.{take-append_seam}
use Rattle.ca_tree.specs.declared.token.Token.{Token}
use Rattle.ca_read.specs.Places.{IsPosOf}
use Rattle.ca_grammar.specs.Faults.{latest, is_name, is_name_word}

latest_is : (us : List Token) → slice_get us (length us - 1) ≡ latest us
latest_is [] = refl
latest_is (u ∷ []) = refl
latest_is (u ∷ v ∷ us) =
    let e : length (u ∷ v ∷ us) - 1 ≡ suc (length (v ∷ us) - 1) = omega arith in
    ap (λ i. slice_get (u ∷ v ∷ us) i) e ∙ latest_is (v ∷ us)

front_is : (ts front rest : List Token) → ts ≡ front ++ rest → take (length ts - length rest) ts ≡ front
front_is ts front rest h =
    let e : length ts - length rest ≡ length front = omega (arith, ap length h, length-append front rest) in
    ap (λ i. take i ts) e ∙ ap (λ (w : List Token). take (length front) w) h ∙ take-append_seam front rest

pub name_before : (ts front rest : List Token) (u : Token) → ts ≡ front ++ rest → slice_get (take (length ts - length rest) ts) (length (take (length ts - length rest) ts) - 1) ≡ Some u
    → is_name_word u.word ≡ is_name (latest front)
name_before ts front rest u h e =
    let same = front_is ts front rest h in
    ap is_name (sym e ∙ latest_is (take (length ts - length rest) ts) ∙ ap latest same)

pub place_of_latest : (ts : List Token) (u : Token) → slice_get ts (length ts - 1) ≡ Some u → IsPosOf (latest ts) (Some u.pos)
place_of_latest ts u h = subst (λ o. IsPosOf o (Some u.pos)) (sym h ∙ latest_is ts) refl
