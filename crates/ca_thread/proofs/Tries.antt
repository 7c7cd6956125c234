-- Counts of tries.
use Rattle.std.proofs.Common.{◌≡◌, ◌<◌, ◌≤◌, ℕ, suc, Bool, true, false, List, [], ◌∷◌, ◌++◌, length, refl, sym, ap, ◌∙◌, arith}
use Rattle.std.specs.Prelude.{slice_set, ◌==◌, if◌then◌else◌}
use Rattle.std.proofs.lemmas.Bool.{eqb-true, eqb-false, ne_eqb}
use Rattle.ca_tree.specs.declared.numbers.SiteId.{SiteId}
use Rattle.ca_thread.specs.declared.saved.Tried.{Tried}
use Rattle.ca_thread.specs.Kept.{count_in, place_in}

by_same : (a b k : ℕ) → a ≡ b → (a == k) ≡ (b == k)
by_same a b k e = ap (λ n. n == k) e

first_set : (b : Bool) (t : Tried) (ts : List Tried) (s k : SiteId) (n : ℕ) → (s.0 == k.0) ≡ b → t.site.0 ≡ s.0 → (if b then n else count_in ts k) ≡ (if b then n else (if t.site.0 == k.0 then t.count else count_in ts k))
first_set true t ts s k n e same = refl
first_set false t ts s k n e same = ap (λ (c : Bool). if c then t.count else count_in ts k) (sym (by_same t.site.0 s.0 k.0 same ∙ e))

later_set : (c : Bool) (t : Tried) (s k : SiteId) (n x y : ℕ) → (t.site.0 == k.0) ≡ c → (t.site.0 ≡ s.0 → ⊥) → x ≡ (if s.0 == k.0 then n else y) → (if c then t.count else x) ≡ (if s.0 == k.0 then n else (if c then t.count else y))
later_set true t s k n x y e other is =
    let apart : (s.0 == k.0) ≡ false = ne_eqb s.0 k.0 (λ same. other (eqb-true t.site.0 k.0 e ∙ sym same)) in
    ap (λ (d : Bool). if d then n else t.count) (sym apart)
later_set false t s k n x y e other is = is

cons_set : (b : Bool) (t : Tried) (ts : List Tried) (s k : SiteId) (n : ℕ) → (t.site.0 == s.0) ≡ b
    → (b ≡ false → count_in (slice_set ts (place_in ts s) (record { site = s; count = n })) k ≡ (if s.0 == k.0 then n else count_in ts k))
    → count_in (slice_set (t ∷ ts) (if b then 0 else suc (place_in ts s)) (record { site = s; count = n })) k ≡ (if s.0 == k.0 then n else (if t.site.0 == k.0 then t.count else count_in ts k))
cons_set true t ts s k n e more = first_set (s.0 == k.0) t ts s k n refl (eqb-true t.site.0 s.0 e)
cons_set false t ts s k n e more = later_set (t.site.0 == k.0) t s k n _ _ refl (eqb-false t.site.0 s.0 e) (more refl)

less : (b : Bool) (p n : ℕ) → b ≡ false → (if b then 0 else suc p) < suc n → p < n
less true p n e lt = absurd (cc)
less false p n e lt = omega (arith, lt)

pub set_there : (ts : List Tried) (s k : SiteId) (n : ℕ) → place_in ts s < length ts → count_in (slice_set ts (place_in ts s) (record { site = s; count = n })) k ≡ (if s.0 == k.0 then n else count_in ts k)
set_there [] s k n lt = absurd (omega (arith, lt))
set_there (t ∷ ts) s k n lt = cons_set (t.site.0 == s.0) t ts s k n refl (λ other. set_there ts s k n (less (t.site.0 == s.0) (place_in ts s) (length ts) other lt))

apart_from : (b : Bool) (p n : ℕ) → suc n ≤ (if b then 0 else suc p) → (b ≡ false) × (n ≤ p)
apart_from true p n le = absurd (omega (arith, le))
apart_from false p n le = (refl, omega (arith, le))

pub set_behind : (ts : List Tried) (s k : SiteId) (n : ℕ) → length ts ≤ place_in ts s → count_in (ts ++ (record { site = s; count = n }) ∷ []) k ≡ (if s.0 == k.0 then n else count_in ts k)
set_behind [] s k n le = refl
set_behind (t ∷ ts) s k n le =
    let other = apart_from (t.site.0 == s.0) (place_in ts s) (length ts) le in
    later_set (t.site.0 == k.0) t s k n _ _ refl (eqb-false t.site.0 s.0 other.0) (set_behind ts s k n other.1)
