-- The first limit that is exceeded at a token.
use Rattle.std.proofs.Common.{◌≡◌, ℕ, suc, ◌+◌, ◌<◌, ◌≤◌, Bool, true, false, List, [], ◌∷◌, ◌++◌, length, drop, get_or, Option, Some, None, refl, sym, ap, subst, ◌∙◌, arith, append_assoc}
use Rattle.std.specs.Prelude.{if◌then◌else◌}
use Rattle.std.proofs.lemmas.List.{at_drop_more, at_drop_all}
use Rattle.std.proofs.lemmas.Bool.{lt-leb, le-leb}
use Rattle.std.proofs.lemmas.Bool.Decides.{nat_tests}
use Rattle.ca_grammar.specs.declared.faults.Count.{Count}
use Rattle.ca_tree.specs.declared.counted.Counted.{Counted}
use Rattle.ca_tree.specs.declared.counted.Counted.TheVariants.{Items, NameBytes}
use Rattle.ca_tree.specs.Counts.{most}
use Rattle.ca_grammar.specs.Limits.{Rule, Limit, the_limits, within}
use Rattle.ca_grammar.specs.Reads.{exceeded, first_exceeded, or_else}
use Rattle.ca_grammar.specs.Plan.{and_name, bytes_of_name, counted}
use Rattle.ca_expressions.specs.Reading.{IsExceeded}

pub none_there : Count
none_there = record { of = Items; number = 0 }

exceeds_first : (c : Count) (cs : List Count) → most c.of < c.number → first_exceeded the_limits (c ∷ cs) ≡ Some (Limit c.of)
exceeds_first c cs h = rw (lt-leb c.number (most c.of) h) refl

keeps_first : (c : Count) (cs : List Count) → c.number ≤ most c.of → first_exceeded the_limits (c ∷ cs) ≡ first_exceeded the_limits cs
keeps_first c cs h = rw (le-leb c.number (most c.of) h) refl

pub exceeds_at : (cs : List Count) (i m : ℕ) (d : Count) → i < length cs → first_exceeded the_limits (drop i cs) ≡ first_exceeded the_limits cs → m ≡ most (get_or cs i d).of
    → m < (get_or cs i d).number → IsExceeded cs None (Some (get_or cs i d).of)
exceeds_at cs i m d h e at over =
    (Limit (get_or cs i d).of, sym e ∙ (at_drop_more (first_exceeded the_limits) cs i d h ∙ exceeds_first (get_or cs i d) (drop (i + 1) cs) (subst (λ x. x < (get_or cs i d).number) at over)), refl)

pub keeps_at : (cs : List Count) (i m : ℕ) (d : Count) → i < length cs → first_exceeded the_limits (drop i cs) ≡ first_exceeded the_limits cs → m ≡ most (get_or cs i d).of
    → (get_or cs i d).number ≤ m → first_exceeded the_limits (drop (i + 1) cs) ≡ first_exceeded the_limits cs
keeps_at cs i m d h e at low =
    sym (keeps_first (get_or cs i d) (drop (i + 1) cs) (subst (λ x. (get_or cs i d).number ≤ x) at low)) ∙ (sym (at_drop_more (first_exceeded the_limits) cs i d h) ∙ e)

pub keeps_all : (cs : List Count) (i : ℕ) → length cs ≤ i → first_exceeded the_limits (drop i cs) ≡ first_exceeded the_limits cs → IsExceeded cs None None
keeps_all cs i h e = sym e ∙ at_drop_all (first_exceeded the_limits) cs i h

at_count : (b : Bool) (r : Rule) (x y z : Option Rule) → x ≡ or_else y z → (if b then x else Some r) ≡ or_else (if b then y else Some r) z
at_count true r x y z e = e
at_count false r x y z e = refl

first_of_both : (cs ds : List Count) → first_exceeded the_limits (cs ++ ds) ≡ or_else (first_exceeded the_limits cs) (first_exceeded the_limits ds)
first_of_both [] ds = refl
first_of_both (c ∷ cs) ds = at_count (within (the_limits (Limit c.of)) c.number) (Limit c.of) _ _ _ (first_of_both cs ds)

pub exceeds_before_name : (cs : List Count) (t : List ℕ) (c : Counted) → IsExceeded cs None (Some c) → IsExceeded (and_name cs t) None (Some c)
exceeds_before_name cs t c i = (i.0, first_of_both cs (bytes_of_name t ∷ []) ∙ ap (λ x. or_else x (first_exceeded the_limits (bytes_of_name t ∷ []))) i.1, i.2)

pub exceeds_name : (cs : List Count) (t : List ℕ) → IsExceeded cs None None → 63 < length t → IsExceeded (and_name cs t) None (Some NameBytes)
exceeds_name cs t i h =
    (Limit NameBytes, first_of_both cs (bytes_of_name t ∷ []) ∙ (ap (λ x. or_else x (first_exceeded the_limits (bytes_of_name t ∷ []))) i ∙ exceeds_first (bytes_of_name t) [] h), refl)

pub keeps_name : (cs : List Count) (t : List ℕ) → IsExceeded cs None None → length t ≤ 63 → IsExceeded (and_name cs t) None None
keeps_name cs t i h = first_of_both cs (bytes_of_name t ∷ []) ∙ (ap (λ x. or_else x (first_exceeded the_limits (bytes_of_name t ∷ []))) i ∙ keeps_first (bytes_of_name t) [] h)

at_kept : (b : Bool) (r : Rule) (x y : Option Rule) → (x ≡ None → y ≡ None) → (if b then x else Some r) ≡ None → (if b then y else Some r) ≡ None
at_kept true r x y f e = f e
at_kept false r x y f e = absurd cc

-- what is counted with a name is within its limits
pub kept_with_name : (cs : List Count) (t : List ℕ) → IsExceeded (and_name cs t) None None → IsExceeded cs None None
kept_with_name [] t e = refl
kept_with_name (c ∷ cs) t e = at_kept (within (the_limits (Limit c.of)) c.number) (Limit c.of) _ _ (kept_with_name cs t) e

-- and so is the next of a kind
pub kept_next : (of : Counted) (n : ℕ) → IsExceeded (counted of (suc n) ∷ []) None None → suc n ≤ most of
kept_next of n e = grind (arith, nat_tests)

past_one : (b : Bool) (r : Rule) (x y z : Option Rule) → (x ≡ None → y ≡ z) → (if b then x else Some r) ≡ None → (if b then y else Some r) ≡ z
past_one true r x y z f h = f h
past_one false r x y z f h = absurd cc

stays_one : (b : Bool) (r s : Rule) (x y : Option Rule) → (x ≡ Some s → y ≡ Some s) → (if b then x else Some r) ≡ Some s → (if b then y else Some r) ≡ Some s
stays_one true r s x y f h = f h
stays_one false r s x y f h = h

-- where the first things exceed no limit, the others decide; and where they exceed one, it is the answer
first_past : (cs ds : List Count) → first_exceeded the_limits cs ≡ None → first_exceeded the_limits (cs ++ ds) ≡ first_exceeded the_limits ds
first_past [] ds h = refl
first_past (c ∷ cs) ds h = past_one (within (the_limits (Limit c.of)) c.number) (Limit c.of) _ _ _ (first_past cs ds) h

first_stays : (cs ds : List Count) (r : Rule) → first_exceeded the_limits cs ≡ Some r → first_exceeded the_limits (cs ++ ds) ≡ Some r
first_stays [] ds r h = absurd cc
first_stays (c ∷ cs) ds r h = stays_one (within (the_limits (Limit c.of)) c.number) (Limit c.of) r _ _ (first_stays cs ds r) h

pub past_counts : (cs ds : List Count) (t : List ℕ) (x : Option Rule) → exceeded the_limits cs None ≡ None → exceeded the_limits (and_name ds t) None ≡ x → exceeded the_limits (and_name (cs ++ ds) t) None ≡ x
past_counts cs ds t x h e = ap (first_exceeded the_limits) (append_assoc cs ds (bytes_of_name t ∷ [])) ∙ (first_past cs (and_name ds t) h ∙ e)

pub counts_over : (cs ds : List Count) (t : List ℕ) (r : Rule) → exceeded the_limits cs None ≡ Some r → exceeded the_limits (and_name (cs ++ ds) t) None ≡ Some r
counts_over cs ds t r h = ap (first_exceeded the_limits) (append_assoc cs ds (bytes_of_name t ∷ [])) ∙ first_stays cs (and_name ds t) r h
