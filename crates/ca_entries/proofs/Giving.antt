-- What a retry gives back, one thing after another from the latest on.
use Rattle.std.proofs.Common.{◌≡◌, ◌<◌, ◌≤◌, ℕ, suc, ◌+◌, Bool, true, false, not, ◌&&◌, ◌||◌, List, [], ◌∷◌, ◌++◌, length, reverse, drop, get_or, filter, inl, inr, refl, sym, ap, ◌∙◌, arith}
use Rattle.std.specs.Prelude.{◌↔◌, ◌⊎◌, IsTrue, if◌then◌else◌}
use Rattle.std.specs.List.{list_any}
use Rattle.std.specs.FinMap as finite
use Rattle.std.proofs.lemmas.List.Elements.{filter-append}
use Rattle.std.proofs.Math.Seq.{drop-cons}
use Rattle.std.proofs.lemmas.List.{reverse-append}
use Rattle.ca_model.specs.declared.values.Given.{Given}
use Rattle.ca_model.specs.Shared.{Blocks, CanFree}
use Rattle.ca_model.specs.Hardened.{same_given, once, latest_first}
use Rattle.ca_model.specs.ComingEntries.{block_at, is_heap}
use Rattle.ca_model.proofs.Entries.{can_free_is, can_free_so}

-- ---- whether a block can be released

same_tests : (a b : Bool) → (a ≡ true → b ≡ true) → (b ≡ true → a ≡ true) → a ≡ b
same_tests true b h k = sym (h refl)
same_tests false true h k = k refl
same_tests false false h k = refl

pub heap_by : (m : Blocks) (b : ℕ) (r : Bool) → IsTrue r ↔ CanFree m (block_at b) → r ≡ is_heap (finite.get m b)
heap_by m b r h = same_tests r (is_heap (finite.get m b)) (λ e. can_free_so m (block_at b) (h.0 e)) (λ e. h.1 (can_free_is m (block_at b) e))

-- ---- each thing once

-- whether a thing stands in a list
abbrev pub stands_in : List Given → Given → Bool
stands_in xs g = list_any (λ y. same_given y g) xs

abbrev pub if_new : Bool → Given → List Given
if_new met g = if met then [] else g ∷ []

kept_new : (same met : Bool) (test : Given → Bool) (g : Given) → test g ≡ not same → filter test (if_new met g) ≡ if_new (same || met) g
kept_new true true test g h = refl
kept_new false true test g h = refl
kept_new true false test g h = ap (λ b. if b then g ∷ [] else []) h
kept_new false false test g h = ap (λ b. if b then g ∷ [] else []) h

once_push : (xs : List Given) (g : Given) → once (xs ++ g ∷ []) ≡ once xs ++ if_new (stands_in xs g) g
once_push [] g = refl
once_push (y ∷ ys) g =
    let others : Given → Bool = λ h. not (same_given y h) in
    ap (λ zs. y ∷ filter others zs) (once_push ys g)
    ∙ ap (λ zs. y ∷ zs) (filter-append others (once ys) (if_new (stands_in ys g) g) ∙ ap (λ zs. filter others (once ys) ++ zs) (kept_new (same_given y g) (stands_in ys g) others g refl))

swap : (a b c : Bool) → (a || (b || c)) ≡ (b || (a || c))
swap true true c = refl
swap true false c = refl
swap false b c = refl

stands_behind : (xs : List Given) (y g : Given) → stands_in (xs ++ y ∷ []) g ≡ (same_given y g || stands_in xs g)
stands_behind [] y g = refl
stands_behind (x ∷ xs) y g = ap (λ b. same_given x g || b) (stands_behind xs y g) ∙ swap (same_given x g) (same_given y g) (stands_in xs g)

stands_reversed : (xs : List Given) (g : Given) → stands_in (reverse xs) g ≡ stands_in xs g
stands_reversed [] g = refl
stands_reversed (x ∷ xs) g = ap (λ ys. stands_in ys g) (reverse-append (x ∷ []) xs) ∙ stands_behind (reverse xs) x g ∙ ap (λ b. same_given x g || b) (stands_reversed xs g)

latest_more : (x : Given) (xs : List Given) → latest_first (x ∷ xs) ≡ latest_first xs ++ if_new (stands_in xs x) x
latest_more x xs = ap once (reverse-append (x ∷ []) xs) ∙ once_push (reverse xs) x ∙ ap (λ b. latest_first xs ++ if_new b x) (stands_reversed xs x)

-- ---- one thing more

filter_new : (test : Given → Bool) (met held : Bool) (x : Given) → test x ≡ held → filter test (if_new met x) ≡ (if not met && held then x ∷ [] else [])
filter_new test true held x h = refl
filter_new test false held x h = ap (λ b. if b then x ∷ [] else []) h

pub one_more : (test : Given → Bool) (x : Given) (xs : List Given) (first held : Bool) → first ≡ not (stands_in xs x) → test x ≡ held
    → filter test (latest_first (x ∷ xs)) ≡ filter test (latest_first xs) ++ (if first && held then x ∷ [] else [])
one_more test x xs first held is h =
    ap (filter test) (latest_more x xs) ∙ filter-append test (latest_first xs) (if_new (stands_in xs x) x)
    ∙ ap (λ zs. filter test (latest_first xs) ++ zs) (filter_new test (stands_in xs x) held x h ∙ ap (λ b. if b && held then x ∷ [] else []) (sym is))

-- the things from one before on
pub from_before : (xs : List Given) (n m : ℕ) (d : Given) → n ≡ m + 1 → n ≤ length xs → drop m xs ≡ get_or xs m d ∷ drop n xs
from_before xs n m d is le =
    let before : m < length xs = omega arith in
    let next : suc m ≡ n = omega arith in
    drop-cons xs m d before ∙ ap (λ k. get_or xs m d ∷ drop k xs) next

pub nothing_left : (xs : List Given) → drop (length xs) xs ≡ []
nothing_left [] = refl
nothing_left (x ∷ xs) = nothing_left xs

-- what is given back by a thing and those behind it, where it is the first of its kind or not, and is held or not
pub goes_on : (test : Given → Bool) (xs : List Given) (n m : ℕ) (d : Given) (first held b : Bool) → n ≡ m + 1 → n ≤ length xs → first ≡ not (stands_in (drop n xs) (get_or xs m d)) → test (get_or xs m d) ≡ held → (first && held) ≡ b
    → filter test (latest_first (drop m xs)) ≡ filter test (latest_first (drop n xs)) ++ (if b then get_or xs m d ∷ [] else [])
goes_on test xs n m d first held b is le new h both =
    ap (λ ds. filter test (latest_first ds)) (from_before xs n m d is le) ∙ one_more test (get_or xs m d) (drop n xs) first held new h
    ∙ ap (λ b. filter test (latest_first (drop n xs)) ++ (if b then get_or xs m d ∷ [] else [])) both

pub both_hold : (a b : Bool) → a ≡ true → b ≡ true → (a && b) ≡ true
both_hold true b h k = k
both_hold false b h k = h

pub one_fails : (a b : Bool) → (a ≡ false) ⊎ (b ≡ false) → (a && b) ≡ false
one_fails true b (inl h) = absurd cc
one_fails true b (inr h) = h
one_fails false b h = refl

-- which things are met
pub met_on : (xs : List Given) (n m : ℕ) (d g : Given) (b c : Bool) → n ≡ m + 1 → n ≤ length xs → b ≡ (same_given (get_or xs m d) g || c) → c ≡ stands_in (drop n xs) g → b ≡ stands_in (drop m xs) g
met_on xs n m d g b c is le h old = h ∙ ap (λ c. same_given (get_or xs m d) g || c) old ∙ sym (ap (λ ds. stands_in ds g) (from_before xs n m d is le))
