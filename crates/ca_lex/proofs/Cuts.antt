-- A text cut in two, by the length of what follows; and a front of a text.
use Rattle.std.proofs.Common.{◌≡◌, ◌<◌, ◌+◌, ℕ, List, [], ◌∷◌, ◌++◌, Bool, true, false, ◌==◌, Some, None, refl, ap, ◌∙◌, arith, length, length-append, take, drop, drop-cons}
use Rattle.std.proofs.Math.Seq.{take-append_seam, drop-append_seam}
use Rattle.std.proofs.lemmas.Bool.{eqb-true}
use Rattle.ca_lex.specs.Skipped.{after_front}

pub cut_len : (text u rest : List ℕ) → text ≡ u ++ rest → length text ≡ length u + length rest
cut_len text u rest e = ap length e ∙ length-append u rest

pub cut_take : (text u rest : List ℕ) (n : ℕ) → text ≡ u ++ rest → n ≡ length u → take n text ≡ u
cut_take text u rest n e is = rw (is, e) (take-append_seam u rest)

pub cut_drop : (text u rest : List ℕ) (n : ℕ) → text ≡ u ++ rest → n ≡ length u → drop n text ≡ rest
cut_drop text u rest n e is = rw (is, e) (drop-append_seam u rest)

-- nothing begins with a front when the text is at its end
pub stuck_at_end : (front rest : List ℕ) (i : ℕ) → i < length front → length rest ≡ 0 → after_front (drop i front) rest ≡ None
stuck_at_end front [] i h empty = rw (drop-cons front i 0) refl
stuck_at_end front (c ∷ cs) i h empty = absurd (omega arith)

front_step : (c d : ℕ) (cs ds rest : List ℕ) (b : Bool) → (d == c) ≡ b → after_front (c ∷ cs) (d ∷ ds) ≡ Some rest → (after_front cs ds ≡ Some rest → ds ≡ cs ++ rest) → d ∷ ds ≡ c ∷ (cs ++ rest)
front_step c d cs ds rest true e h ih =
    let same = eqb-true d c e in
    let more = ih (rw e at h) in
    cc
front_step c d cs ds rest false e h ih = let none = rw e at h in absurd cc

pub front_found : (front text rest : List ℕ) → after_front front text ≡ Some rest → text ≡ front ++ rest
front_found [] text rest h = cc
front_found (c ∷ cs) [] rest h = absurd cc
front_found (c ∷ cs) (d ∷ ds) rest h = front_step c d cs ds rest (d == c) refl h (front_found cs ds rest)
