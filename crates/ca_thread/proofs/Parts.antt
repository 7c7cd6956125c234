-- A list is a part of another where it is used up along it.
use Rattle.std.proofs.Common.{◌≡◌, ◌<◌, ◌≤◌, ◌+◌, ℕ, zero, suc, Bool, true, false, List, [], ◌∷◌, length, drop, refl, sym, ap, ◌∙◌, inl, inr, add-one, arith}
use Rattle.std.specs.Prelude.{get_or, ◌&&◌, ◌||◌, if◌then◌else◌}
use Rattle.std.proofs.Math.Seq.{drop-cons}
use Rattle.std.proofs.lemmas.Bool.{or_cases, and_parts, or_right}
use Rattle.ca_model.specs.declared.values.Given.{Given}
use Rattle.ca_model.specs.Hardened.{same_given, is_part}
use Rattle.ca_thread.specs.Gives.{behind}

one_more : (gs : List Given) (h : Given) (hs : List Given) → is_part gs hs ≡ true → is_part gs (h ∷ hs) ≡ true
one_more [] h hs e = refl
one_more (g ∷ gs) h hs e = or_right (same_given g h && is_part gs hs) (is_part (g ∷ gs) hs) e

-- without its first it is one too
without_first : (g : Given) (gs hs : List Given) → is_part (g ∷ gs) hs ≡ true → is_part gs hs ≡ true
without_first g gs [] e = absurd (cc)
without_first g gs (h ∷ hs) e = elim (or_cases (same_given g h && is_part gs hs) (is_part (g ∷ gs) hs) e) [
  | inl here ↦ one_more gs h hs (and_parts (same_given g h) (is_part gs hs) here).1
  | inr more ↦ one_more gs h hs (without_first g gs hs more)
]

first_enough : (a b : Bool) → (b ≡ true → a ≡ true) → a ≡ (a || b)
first_enough true b h = refl
first_enough false true h = h refl
first_enough false false h = refl

pub part_behind : (gs : List Given) (h : Given) (hs : List Given) → is_part (behind gs h) hs ≡ is_part gs (h ∷ hs)
part_behind [] h [] = refl
part_behind [] h (k ∷ hs) = refl
part_behind (g ∷ gs) h hs = elim (same_given g h) as (λ b. is_part (if b then gs else g ∷ gs) hs ≡ ((b && is_part gs hs) || is_part (g ∷ gs) hs)) [
  | true ↦ first_enough (is_part gs hs) (is_part (g ∷ gs) hs) (without_first g gs hs)
  | false ↦ refl
]

from_next : (xs : List Given) (i : ℕ) (d : Given) → i < length xs → drop i xs ≡ get_or xs i d ∷ drop (i + 1) xs
from_next xs i d lt = drop-cons xs i d lt ∙ ap (λ (k : ℕ). get_or xs i d ∷ drop k xs) (sym (add-one i))

pub next_part : (of left new : List Given) (i : ℕ) (d : Given) (whole : Bool) → i < length of → new ≡ behind left (get_or of i d) → is_part left (drop i of) ≡ whole → is_part new (drop (i + 1) of) ≡ whole
next_part of left new i d whole lt is before =
    ap (λ gs. is_part gs (drop (i + 1) of)) is ∙ (part_behind left (get_or of i d) (drop (i + 1) of) ∙ (ap (is_part left) (sym (from_next of i d lt)) ∙ before))

drop_all : (xs : List Given) (i : ℕ) → length xs ≤ i → drop i xs ≡ []
drop_all [] zero le = refl
drop_all [] (suc i) le = refl
drop_all (x ∷ xs) zero le = absurd (omega (arith, le))
drop_all (x ∷ xs) (suc i) le = drop_all xs i (omega (arith, le))

pub used_up : (of left : List Given) (i : ℕ) (b whole : Bool) → length of ≤ i → b ≡ is_part left [] → is_part left (drop i of) ≡ whole → b ≡ whole
used_up of left i b whole le is before = is ∙ (ap (is_part left) (sym (drop_all of i le)) ∙ before)
