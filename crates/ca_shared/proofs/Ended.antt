-- The threads that have ended, by what is kept of each.
use Rattle.std.proofs.Common.{◌≡◌, ◌≢◌, ◌<◌, ◌+◌, ℕ, zero, suc, Bool, true, false, cond, List, [], ◌∷◌, ◌++◌, length, Option, Some, None, refl, sym, ap, ◌∙◌, arith, rules, get_or, inl, inr, length-append}
use Rattle.std.specs.Prelude.{slice_get, slice_set}
use Rattle.std.specs.Ordering.{nat_cmp}
use Rattle.std.specs.FinSet as set
use Rattle.std.specs.FinSet.{members, same_set}
use Rattle.std.specs.FinMap.{nat_cmp-IsAntisymmetric}
use Rattle.std.specs.Cmp.{nat_cmp_total}
use Rattle.std.proofs.lemmas.Bool.Decides.{eqb_tells}
use Rattle.ca_shared.specs.declared.threads.Progress.{Progress}
use Rattle.ca_shared.specs.Kept.{ended_from, begun, flagged}

none_in : (q : ℕ) → set.contains (set.empty {R = nat_cmp}) q ≡ false
none_in q = grind (members, rules)

in_here : (e : set.FinSet nat_cmp) (n : ℕ) → set.contains (set.insert e n) n ≡ true
in_here e n = grind (members, rules)

in_there : (e : set.FinSet nat_cmp) (n q : ℕ) → q ≢ n → set.contains (set.insert e n) q ≡ set.contains e q
in_there e n q ne = grind (members, rules)

below : (ps : List Progress) (n q : ℕ) → q < n → set.contains (ended_from n ps) q ≡ false
below [] n q lt = none_in q
below (p ∷ ps) n q lt = by_flag p.ended (below ps (n + 1) q (omega (arith, lt)))
  where
    by_flag : (b : Bool) → set.contains (ended_from (n + 1) ps) q ≡ false → set.contains (cond b (set.insert (ended_from (n + 1) ps) n) (ended_from (n + 1) ps)) q ≡ false
    by_flag true h = in_there (ended_from (n + 1) ps) n q (λ e. omega (arith, lt, e)) ∙ h
    by_flag false h = h

head_is : (p : Progress) (ps : List Progress) (n : ℕ) → set.contains (ended_from n (p ∷ ps)) n ≡ p.ended
head_is p ps n = by_flag p.ended
  where
    by_flag : (b : Bool) → set.contains (cond b (set.insert (ended_from (n + 1) ps) n) (ended_from (n + 1) ps)) n ≡ b
    by_flag true = in_here (ended_from (n + 1) ps) n
    by_flag false = below ps (n + 1) n (omega arith)

tail_is : (p : Progress) (ps : List Progress) (n q : ℕ) → q ≢ n → set.contains (ended_from n (p ∷ ps)) q ≡ set.contains (ended_from (n + 1) ps) q
tail_is p ps n q ne = by_flag p.ended
  where
    by_flag : (b : Bool) → set.contains (cond b (set.insert (ended_from (n + 1) ps) n) (ended_from (n + 1) ps)) q ≡ set.contains (ended_from (n + 1) ps) q
    by_flag true = in_there (ended_from (n + 1) ps) n q ne
    by_flag false = refl

-- whether a thread has ended: where there is no such thread, it hasn't
abbrev pub flag_at : Option Progress → Bool
flag_at None = false
flag_at (Some p) = p.ended

pub ended_at : (ps : List Progress) (n k q : ℕ) → q ≡ n + k → set.contains (ended_from n ps) q ≡ flag_at (slice_get ps k)
ended_at [] n k q e = none_in q
ended_at (p ∷ ps) n zero q e = ap (set.contains (ended_from n (p ∷ ps))) (let same : q ≡ n = omega (arith, e) in same) ∙ head_is p ps n
ended_at (p ∷ ps) n (suc k) q e = tail_is p ps n q (λ f. omega (arith, e, f)) ∙ ended_at ps (n + 1) k q (omega (arith, e))

pub ended_here : (ps : List Progress) (t : ℕ) → set.contains (ended_from 0 ps) t ≡ flag_at (slice_get ps t)
ended_here ps t = ended_at ps 0 t t (omega arith)

pub flag_is : (ps : List Progress) (t : ℕ) (p : Progress) → slice_get ps t ≡ Some p → set.contains (ended_from 0 ps) t ≡ p.ended
flag_is ps t p at = ended_here ps t ∙ ap flag_at at

-- a thread that ends
pub flagged_is : (ps : List Progress) (t : ℕ) (x : Progress) → t < length ps → x ≡ get_or ps t x → slice_set ps t (record { ended = true; depth = x.depth; last = x.last }) ≡ flagged ps t
flagged_is [] t x lt is = absurd (let never : ⊥ = omega (arith, lt) in never)
flagged_is (p ∷ ps) zero x lt is = ap (λ (y : Progress). record { ended = true; depth = y.depth; last = y.last } ∷ ps) is
flagged_is (p ∷ ps) (suc t) x lt is = ap (λ l. p ∷ l) (flagged_is ps t x (omega (arith, lt)) is)

pub flagged_length : (ps : List Progress) (t : ℕ) → length (flagged ps t) ≡ length ps
flagged_length [] t = refl
flagged_length (p ∷ ps) zero = refl
flagged_length (p ∷ ps) (suc t) = ap suc (flagged_length ps t)

flag_here : (ps : List Progress) (t : ℕ) → t < length ps → flag_at (slice_get (flagged ps t) t) ≡ true
flag_here [] t lt = absurd (let never : ⊥ = omega (arith, lt) in never)
flag_here (p ∷ ps) zero lt = refl
flag_here (p ∷ ps) (suc t) lt = flag_here ps t (omega (arith, lt))

flag_there : (ps : List Progress) (t q : ℕ) → q ≢ t → flag_at (slice_get (flagged ps t) q) ≡ flag_at (slice_get ps q)
flag_there [] t q ne = refl
flag_there (p ∷ ps) zero zero ne = absurd (ne refl)
flag_there (p ∷ ps) zero (suc q) ne = refl
flag_there (p ∷ ps) (suc t) zero ne = refl
flag_there (p ∷ ps) (suc t) (suc q) ne = flag_there ps t q (λ e. ne (ap suc e))

pub ended_more : (ps : List Progress) (t : ℕ) → t < length ps → ended_from 0 (flagged ps t) ≡ set.insert (ended_from 0 ps) t
ended_more ps t lt = same_set nat_cmp_total nat_cmp-IsAntisymmetric _ _ (λ q. elim (eqb_tells q t) [
  | inl same ↦ ended_here (flagged ps t) q ∙ (ap (λ n. flag_at (slice_get (flagged ps t) n)) same.1 ∙ (flag_here ps t lt ∙ sym (ap (set.contains (set.insert (ended_from 0 ps) t)) same.1 ∙ in_here (ended_from 0 ps) t)))
  | inr other ↦ ended_here (flagged ps t) q ∙ (flag_there ps t q other.1 ∙ (sym (ended_here ps q) ∙ sym (in_there (ended_from 0 ps) t q other.1)))
])

-- a thread that is made
pub none_more : (ps : List Progress) (n place : ℕ) → ended_from n (ps ++ begun place ∷ []) ≡ ended_from n ps
none_more [] n place = refl
none_more (p ∷ ps) n place = ap (λ e. cond p.ended (set.insert e n) e) (none_more ps (n + 1) place)

pub one_more : (ps : List Progress) (place : ℕ) → length (ps ++ begun place ∷ []) ≡ length ps + 1
one_more ps place = omega (arith, length-append ps (begun place ∷ []))
