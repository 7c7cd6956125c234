-- Definitions by their names.
use Rattle.std.proofs.Common.{◌≡◌, ℕ, ◌+◌, Bool, true, false, ◌||◌, List, [], ◌∷◌, ◌++◌, map, length, Option, Some, None, refl, ap, sym, ◌∙◌, arith}
use denote.Ref.{Bor}
use Rattle.std.specs.Prelude.{is_some, if◌then◌else◌}
use Rattle.std.specs.List.{list_any}
use Rattle.std.specs.Str.{bytes_eq}
use Rattle.std.proofs.lemmas.Slice.Eq.{bytes_eq-Decides}
use Rattle.indexmap.specs.IndexMap.{insert_entry}
use Rattle.ca_tree.specs.declared.numbers.FunId.{FunId}
use Rattle.ca_model.specs.typing.Scopes.{find, or_else, defined_as}
use Rattle.ca_operands.specs.Shown.{shown_entry}
use Rattle.ca_operands.proofs.Lookups.{inserted}
use Rattle.ca_bodies.specs.Shown.{id_or_first, number_in}

pub number_is : (n : List ℕ) (k : ℕ) (xs : List (List ℕ)) → id_or_first (number_in n k xs) ≡ record { 0 = defined_as k n xs }
number_is n k [] = refl
number_is n k (x ∷ xs) = by (bytes_eq n x) (number_is n (k + 1) xs)
  where
    by : (b : Bool) → id_or_first (number_in n (k + 1) xs) ≡ record { 0 = defined_as (k + 1) n xs }
        → id_or_first (if b then Some (record { 0 = k }) else number_in n (k + 1) xs) ≡ record { 0 = if b then k else defined_as (k + 1) n xs }
    by true more = refl
    by false more = more

pub defined_where : (n : List ℕ) (k : ℕ) (xs : List (List ℕ)) → is_some (number_in n k xs) ≡ list_any (λ m. bytes_eq n m) xs
defined_where n k [] = refl
defined_where n k (x ∷ xs) = by (bytes_eq n x) (defined_where n (k + 1) xs)
  where
    by : (b : Bool) → is_some (number_in n (k + 1) xs) ≡ list_any (λ m. bytes_eq n m) xs
        → is_some (if b then Some (record { 0 = k }) else number_in n (k + 1) xs) ≡ (b || list_any (λ m. bytes_eq n m) xs)
    by true more = refl
    by false more = more

-- ---- one more, behind those that are there

find_end : {A : Type 0} (n x : List ℕ) (a : A) (es : List (List ℕ × A)) → find n (es ++ (x, a) ∷ []) ≡ or_else (find n es) (if bytes_eq n x then Some a else None)
find_end n x a [] = refl
find_end {A = A} n x a (e ∷ es) = by (bytes_eq n e.0) (find_end n x a es)
  where
    by : (b : Bool) → find n (es ++ (x, a) ∷ []) ≡ or_else (find n es) (if bytes_eq n x then Some a else None)
        → (if b then Some e.1 else find n (es ++ (x, a) ∷ [])) ≡ or_else (if b then Some e.1 else find n es) (if bytes_eq n x then Some a else None)
    by true more = refl
    by false more = more

number_end : (n x : List ℕ) (k l : ℕ) (xs : List (List ℕ)) → l ≡ k + length xs → number_in n k (xs ++ x ∷ []) ≡ or_else (number_in n k xs) (if bytes_eq n x then Some (record { 0 = l }) else None)
number_end n x k l [] is = let e : k ≡ l = omega (arith, is) in ap (λ k. if bytes_eq n x then Some (record { 0 = k }) else None) e
number_end n x k l (y ∷ xs) is = by (bytes_eq n y) (number_end n x (k + 1) l xs (omega (arith, is)))
  where
    by : (b : Bool) → number_in n (k + 1) (xs ++ x ∷ []) ≡ or_else (number_in n (k + 1) xs) (if bytes_eq n x then Some (record { 0 = l }) else None)
        → (if b then Some (record { 0 = k }) else number_in n (k + 1) (xs ++ x ∷ [])) ≡ or_else (if b then Some (record { 0 = k }) else number_in n (k + 1) xs) (if bytes_eq n x then Some (record { 0 = l }) else None)
    by true more = refl
    by false more = more

kept_by : {A : Type 0} (o : Option A) (b : Bool) (a : A) → (b ≡ true → is_some o ≡ true) → o ≡ or_else o (if b then Some a else None)
kept_by None true a h = let e = h refl in absurd cc
kept_by None false a h = refl
kept_by (Some x) b a h = refl

abbrev pub Numbers : Type 0
Numbers = List (Bor (List ℕ) × FunId)

-- a name that is defined again keeps its number
pub again : (ns : Numbers) (ds : List (List ℕ)) (x n : List ℕ) → ((n : List ℕ) → find n (map shown_entry ns) ≡ number_in n 0 ds) → is_some (find x (map shown_entry ns)) ≡ true
    → find n (map shown_entry ns) ≡ number_in n 0 (ds ++ x ∷ [])
again ns ds x n are there =
    are n
    ∙ (kept_by (number_in n 0 ds) (bytes_eq n x) (record { 0 = length ds }) (λ same. ap (λ n. is_some (number_in n 0 ds)) ((bytes_eq-Decides n x).0 same) ∙ (ap (λ (o : Option FunId). is_some o) (sym (are x)) ∙ there))
    ∙ sym (number_end n x 0 (length ds) ds (omega arith)))

-- and a new one has the next
pub anew : (ns more : Numbers) (ds : List (List ℕ)) (x : Bor (List ℕ)) (n : List ℕ) (id : FunId) → ((n : List ℕ) → find n (map shown_entry ns) ≡ number_in n 0 ds) → is_some (find x.now (map shown_entry ns)) ≡ false
    → more ≡ insert_entry (λ a b. bytes_eq a.now b.now) ns x id → id ≡ record { 0 = length ds } → find n (map shown_entry more) ≡ number_in n 0 (ds ++ x.now ∷ [])
anew ns more ds x n id are new is next =
    ap (λ (es : Numbers). find n (map shown_entry es)) is
    ∙ (ap (find n) (inserted x id ns (none_if _ new))
    ∙ (find_end n x.now id (map shown_entry ns)
    ∙ (ap (λ (o : Option FunId). or_else o (if bytes_eq n x.now then Some id else None)) (are n)
    ∙ (ap (λ (i : FunId). or_else (number_in n 0 ds) (if bytes_eq n x.now then Some i else None)) next
    ∙ sym (number_end n x.now 0 (length ds) ds (omega arith))))))
  where
    none_if : {A : Type 0} (o : Option A) → is_some o ≡ false → o ≡ None
    none_if None h = refl
    none_if (Some a) h = absurd cc
