-- Where a rule is broken, limits that ask only for rules before it are kept.
use Rattle.std.proofs.Common.{◌≡◌, inl, inr, ℕ, ◌<◌, Bool, true, false, ◌==◌, List, [], ◌∷◌, All, Option, Some, None, if◌then◌else◌, refl, sym, ap, subst, ◌∙◌, arith, rules, true≢false}
use Rattle.std.proofs.lemmas.List.Elements.{All-head, All-tail}
use Rattle.ca_grammar.specs.declared.faults.Count.{Count}
use Rattle.ca_grammar.specs.Words.{Class}
use Rattle.ca_grammar.specs.Limits.{Rule, Limit, Limits, Firm, no_rules, only, order, the_limits, within}
use Rattle.ca_grammar.specs.Reads.{first_exceeded, or_else, exceeded}
use Rattle.ca_grammar.proofs.WeakerLimits.{weaker_only}
use Rattle.ca_grammar.proofs.Steps.{Above, Ascending, Tidy}
use Rattle.ca_grammar.proofs.Through.{Spares}

none_exceeded : (cs : List Count) → first_exceeded no_rules cs ≡ None
none_exceeded [] = refl
none_exceeded (c ∷ cs) = none_exceeded cs

pub spares_none : (limits : Limits) (r : Rule) (k : Class) (cs : List Count) (firm : Option Firm) → Spares limits no_rules r k cs firm
spares_none limits r k cs None e = none_exceeded cs
spares_none limits r k cs (Some f) e = none_exceeded cs

unequal : (m n : ℕ) → m < n → (n == m) ≡ false
unequal m n h = search (arith, rules)

free : (s r : Rule) → order s < order r → only s r ≡ None
free s r h = ap (λ b. if b then the_limits r else None) (unequal (order s) (order r) h)

-- a count of a rule that isn't asked for
passed : (s : Rule) (c : Count) (cs : List Count) → within (only s (Limit c.of)) c.number ≡ true → first_exceeded (only s) cs ≡ None → first_exceeded (only s) (c ∷ cs) ≡ None
passed s c cs w h = ap (λ b. if b then first_exceeded (only s) cs else Some (Limit c.of)) w ∙ h

above_free : (s : Rule) (n : ℕ) → order s < n → (cs : List Count) → All (Above n) cs → first_exceeded (only s) cs ≡ None
above_free s n lower [] h = refl
above_free s n lower (c ∷ cs) h =
    let i : order s < order (Limit c.of) = omega (arith, lower, All-head (Above n) c cs h) in
    passed s c cs (ap (λ m. within m c.number) (free s (Limit c.of) i)) (above_free s n lower cs (All-tail (Above n) c cs h))

counts_spared : (s r : Rule) → order s < order r → (cs : List Count) → Ascending cs → first_exceeded the_limits cs ≡ Some r → first_exceeded (only s) cs ≡ None
counts_spared s r lower [] h e = refl
counts_spared s r lower (c ∷ cs) h e = either (within (the_limits (Limit c.of)) c.number) refl e (counts_spared s r lower cs h.1)
  where
    either : (b : Bool) → within (the_limits (Limit c.of)) c.number ≡ b → (if b then first_exceeded the_limits cs else Some (Limit c.of)) ≡ Some r
        → (first_exceeded the_limits cs ≡ Some r → first_exceeded (only s) cs ≡ None) → first_exceeded (only s) (c ∷ cs) ≡ None
    either true w e later = passed s c cs (weaker_only s (Limit c.of) c.number w) (later e)
    either false w e later =
        let i : Limit c.of ≡ r = cc in
        let j : order s < order (Limit c.of) = subst (λ q. order s < order q) (sym i) lower in
        passed s c cs (ap (λ m. within m c.number) (free s (Limit c.of) j)) (above_free s (order (Limit c.of)) j cs h.0)

pub spares_only : (s r : Rule) → order s < order r → (k : Class) (cs : List Count) (firm : Option Firm) → Tidy firm cs → Spares the_limits (only s) r k cs firm
spares_only s r lower k cs None h e = counts_spared s r lower cs h.0 e
spares_only s r lower k cs (Some f) h e = either (within (the_limits f.0) f.1) refl e
  where
    either : (b : Bool) → within (the_limits f.0) f.1 ≡ b → or_else (if b then None else Some f.0) (first_exceeded the_limits cs) ≡ Some r → exceeded (only s) cs (Some f) ≡ None
    either true w e = ap (λ b. or_else (if b then None else Some f.0) (first_exceeded (only s) cs)) (weaker_only s f.0 f.1 w) ∙ counts_spared s r lower cs h.0 e
    either false w e =
        let i : f.0 ≡ r = cc in
        let j : order s < order f.0 = subst (λ q. order s < order q) (sym i) lower in
        elim h.1 [
          | inl none ↦ ap (λ m. or_else (if within m f.1 then None else Some f.0) (first_exceeded (only s) cs)) (free s f.0 j) ∙ ap (λ c. first_exceeded (only s) c) none
          | inr kept ↦ absurd (true≢false (sym kept ∙ w))
        ]

pub only_itself : (r : Rule) → only r r ≡ the_limits r
only_itself r = ap (λ b. if b then the_limits r else None) (equal (order r))
  where
    equal : (n : ℕ) → (n == n) ≡ true
    equal n = search (arith, rules)
