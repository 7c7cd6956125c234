-- Which numbers are those of sites, and the first that is not.
use Rattle.std.proofs.Common.{arith, ◌≡◌, ◌<◌, ◌≤◌, ◌+◌, ℕ, zero, suc, List, [], ◌∷◌, ◌++◌, length, take, drop, map, get_or, Option, Some, None, refl, sym, ap, ◌∙◌, subst, inl, inr, Bool, false, true≢false}
use Rattle.std.specs.Prelude.{Contains, ◌↔◌, IsTrue, nat_le, option_map}
use Rattle.std.proofs.lemmas.Bool.{le-leb, leb-true}
use Rattle.std.proofs.lemmas.List.{take_more}
use Rattle.std.proofs.lemmas.List.Elements.{Contains-append_cases}
use Rattle.ca_tree.specs.declared.numbers.SiteId.{SiteId}
use Rattle.ca_model.specs.Codes.{Typed}
use Rattle.ca_model.specs.Plans.{IsNamed}
use Rattle.ca_model.specs.Accesses.{all_sites}
use Rattle.ca_model.proofs.Members.{in_none, in_one, in_cons, at_head, at_tail}
use Rattle.ca_flow.proofs.LoweredSites.{number_of}
use Rattle.ca_flow.proofs.SiteItems.{at_place}
use Rattle.ca_plan.specs.Planning.{site, IsSiteNumber, AreSiteNumbers, IsFirstNoSite, OneFirstNoSite}

pub there : (p : Typed) (n : ℕ) → 1 ≤ n → n ≤ length (all_sites p) → IsSiteNumber p n
there p zero low high = absurd (omega (arith, low))
there p (suc k) low high = at_place (all_sites p) k (omega (arith, high))

pub within : (p : Typed) (n : ℕ) → IsSiteNumber p n → (1 ≤ n) × (n ≤ length (all_sites p))
within p n h = let lt : 0 < n = (number_of p h.0 (site n) h.1).0 in (omega (arith, lt), (number_of p h.0 (site n) h.1).1)

pub told : (p : Typed) (n m : ℕ) → m ≡ length (all_sites p) → 1 ≤ n → IsTrue (nat_le n m) ↔ IsSiteNumber p n
told p n m is low = (
  (λ h. let high : n ≤ m = leb-true n m h in there p n low (omega (arith, high, is))),
  (λ h. let high : n ≤ length (all_sites p) = (within p n h).1 in le-leb n m (omega (arith, high, is))),
)

pub not_told : {P : Type 0} (b : Bool) → b ≡ false → IsTrue b ↔ P → P → ⊥
not_told b is told h = true≢false (sym (told.1 h) ∙ is)

-- ---- number by number

pub none_yet : (p : Typed) → AreSiteNumbers p []
none_yet p n c = absurd (in_none n c)

pub one_more : (p : Typed) (ns : List ℕ) (k : ℕ) → k < length ns → AreSiteNumbers p (take k ns) → IsSiteNumber p (get_or ns k 0) → AreSiteNumbers p (take (k + 1) ns)
one_more p ns k lt before here n c = elim (Contains-append_cases (take k ns) (get_or ns k 0 ∷ []) n (subst (λ xs. Contains xs n) (take_more ns k 0 lt) c)) [
  | inl old ↦ before n old
  | inr new ↦ subst (IsSiteNumber p) (in_one (get_or ns k 0) n new) here
]

take_end : (ns : List ℕ) (k : ℕ) → length ns ≤ k → take k ns ≡ ns
take_end [] zero past = refl
take_end [] (suc k) past = refl
take_end (x ∷ ns) zero past = absurd (omega (arith, past))
take_end (x ∷ ns) (suc k) past = ap (λ xs. x ∷ xs) (take_end ns k (omega (arith, past)))

pub all_of : (p : Typed) (ns : List ℕ) (k : ℕ) → length ns ≤ k → AreSiteNumbers p (take k ns) → AreSiteNumbers p ns
all_of p ns k past before = subst (AreSiteNumbers p) (take_end ns k past) before

parts : (ns : List ℕ) (k : ℕ) → k < length ns → ns ≡ take k ns ++ get_or ns k 0 ∷ drop (suc k) ns
parts [] k lt = absurd (omega (arith, lt))
parts (x ∷ []) zero lt = refl
parts (x ∷ y ∷ ns) zero lt = refl
parts (x ∷ ns) (suc k) lt = ap (λ xs. x ∷ xs) (parts ns k (omega (arith, lt)))

pub first_at : (p : Typed) (ns : List ℕ) (k : ℕ) → k < length ns → AreSiteNumbers p (take k ns) → (IsSiteNumber p (get_or ns k 0) → ⊥) → IsFirstNoSite p ns (get_or ns k 0)
first_at p ns k lt before none = (take k ns, drop (suc k) ns, parts ns k lt, before, none)

-- ---- one first

same_first : (p : Typed) (b c x y : List ℕ) (n m : ℕ) → b ++ n ∷ x ≡ c ++ m ∷ y → AreSiteNumbers p b → AreSiteNumbers p c → (IsSiteNumber p n → ⊥) → (IsSiteNumber p m → ⊥) → n ≡ m
same_first p [] [] x y n m is b c non nom = cc
same_first p [] (z ∷ c) x y n m is b also non nom = let same : z ≡ n = cc in absurd (non (subst (IsSiteNumber p) same (also z (at_head z c))))
same_first p (z ∷ b) [] x y n m is also c non nom = let same : z ≡ m = cc in absurd (nom (subst (IsSiteNumber p) same (also z (at_head z b))))
same_first p (u ∷ b) (v ∷ c) x y n m is left right non nom =
    let rest : b ++ n ∷ x ≡ c ++ m ∷ y = cc in
    same_first p b c x y n m rest (λ k h. left k (at_tail u b k h)) (λ k h. right k (at_tail v c k h)) non nom

pub one_first : OneFirstNoSite
one_first p ns n m a b = same_first p a.0 b.0 a.1 b.1 n m (sym a.2 ∙ b.2) a.3 b.3 a.4 b.4

-- ---- names

into_sites : (ns : List ℕ) (n : ℕ) → Contains ns n → Contains (map site ns) (site n)
into_sites [] n c = absurd (in_none n c)
into_sites (m ∷ ns) n c = elim (in_cons m ns n c) [
  | inl is ↦ subst (λ k. Contains (map site (m ∷ ns)) (site k)) is (at_head (site m) (map site ns))
  | inr more ↦ at_tail (site m) (map site ns) (site n) (into_sites ns n more)
]

from_sites : (ns : List ℕ) (n : ℕ) → Contains (map site ns) (site n) → Contains ns n
from_sites [] n c = absurd (in_none (site n) c)
from_sites (m ∷ ns) n c = elim (in_cons (site m) (map site ns) (site n) c) [
  | inl is ↦ subst (Contains (m ∷ ns)) (ap (λ (s : SiteId). s.0) is) (at_head m ns)
  | inr more ↦ at_tail m ns n (from_sites ns n more)
]

pub named_among : (only : Option (List ℕ)) (ns read : List ℕ) (n : ℕ) (b : Bool) → only ≡ Some ns → read ≡ ns → IsTrue b ↔ Contains read n → IsTrue b ↔ IsNamed (option_map (map site) only) (site n)
named_among only ns read n b is same told =
    subst (λ o. IsTrue b ↔ IsNamed (option_map (map site) o) (site n)) (sym is)
    ((λ h. into_sites ns n (subst (λ l. Contains l n) same (told.0 h))), λ h. told.1 (subst (λ l. Contains l n) (sym same) (from_sites ns n h)))

pub none_named : (only : Option (List ℕ)) (n : ℕ) → only ≡ None → IsNamed (option_map (map site) only) (site n)
none_named only n is = subst (λ o. IsNamed (option_map (map site) o) (site n)) (sym is) tt

-- ---- lists that are read through references, and code of a source

pub first_read : (p q : Typed) (ns read : List ℕ) (n m : ℕ) → q ≡ p → read ≡ ns → m ≡ n → IsFirstNoSite q read m → IsFirstNoSite p ns n
first_read p q ns read n m code list same h =
    subst (λ (t : Typed). IsFirstNoSite t ns n) code (subst (λ l. IsFirstNoSite q l n) list (subst (IsFirstNoSite q read) same h))

pub all_read : (p q : Typed) (ns read : List ℕ) → q ≡ p → read ≡ ns → AreSiteNumbers q read → AreSiteNumbers p ns
all_read p q ns read code list h = subst (λ (t : Typed). AreSiteNumbers t ns) code (subst (AreSiteNumbers q) list h)
