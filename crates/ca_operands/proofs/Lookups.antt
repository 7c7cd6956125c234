-- What a name means, by the parts of a scope.
use Rattle.std.proofs.Common.{arith, ◌≡◌, ℕ, ◌-◌, List, [], ◌∷◌, map, take, drop, reverse, length, None, Some, refl, ap, sym, ◌∙◌, length-drop}
use denote.Ref.{Bor}
use Rattle.std.specs.Prelude.{Bool, true, false, not, ◌||◌, suc, nat_lt, Option, is_some, cond, if◌then◌else◌, ◌+◌, ◌++◌, position}
use Rattle.std.specs.Map.{lookup, keys_of}
use Rattle.std.specs.List.{position_or_len}
use Rattle.std.specs.Str.{bytes_eq}
use Rattle.std.specs.List.{list_any, take-map}
use Rattle.std.proofs.lemmas.List.Sorted.{list_any-IsPermutation, IsPermutation-reverse}
use Rattle.std.proofs.lemmas.List.{take-append-drop, reverse-append, length-reverse, drop-map}
use Rattle.std.proofs.Math.Seq.{drop-append_seam, take-append_seam}
use Rattle.std.proofs.lemmas.List.{length-map}
use Rattle.ca_model.specs.declared.types.Meaning.{Meaning}
use Rattle.ca_tree.specs.declared.numbers.StructId.{StructId}
use Rattle.ca_model.specs.typing.Globals.{with_name}
use Rattle.indexmap.specs.IndexMap.{insert_entry}
use Rattle.ca_model.specs.typing.Scopes.{Scope, find, meaning, struct_numbered}
use Rattle.ca_operands.specs.declared.scope.LocalName.{LocalName}
use Rattle.ca_operands.specs.Shown.{Structs, Globals, shown, shown_struct, shown_entry, shown_local}

-- a look-up in a map by names
pub looked_up : {A : Type 0} (n : List ℕ) (es : List (Bor (List ℕ) × A)) → lookup (λ k. bytes_eq n k.now) es ≡ find n (map shown_entry es)
looked_up n [] = refl
looked_up n (e ∷ es) = ap (cond (bytes_eq n e.0.now) (Some e.1)) (looked_up n es)

-- a name that no local has
pub no_local : (s : Scope) (n : List ℕ) → find n s.locals ≡ None → find n s.globals ≡ meaning s n
no_local s n e = rw e

-- the earliest locals stand last
reverse-take : {A : Type 0} (n : ℕ) (xs : List A) → reverse (take n xs) ≡ drop (length xs - n) (reverse xs)
reverse-take n xs =
    sym (drop-append_seam (reverse (drop n xs)) (reverse (take n xs)))
    ∙ ap (drop (length (reverse (drop n xs)))) (sym (reverse-append (take n xs) (drop n xs)) ∙ ap reverse (take-append-drop n xs))
    ∙ ap (λ k. drop k (reverse xs)) (length-reverse (drop n xs) ∙ length-drop n xs)

-- a scope of which only the earliest n locals are kept
pub kept : (structs : Structs) (globals : Globals) (xs ys : List LocalName) (n : ℕ) (s : Scope) → ys ≡ take n xs → shown structs globals xs ≡ s
    → shown structs globals ys ≡ record s { locals = drop (length s.locals - n) s.locals }
kept structs globals xs ys n s is same =
    ap (shown structs globals) is
    ∙ ap (λ ls. let s = shown structs globals xs in record s { locals = ls })
    (ap (map shown_local) (reverse-take n xs) ∙ sym (drop-map shown_local (length xs - n) (reverse xs))
    ∙ ap (λ k. drop (k - n) (map shown_local (reverse xs))) (sym (length-map (reverse xs) shown_local ∙ length-reverse xs)))
    ∙ ap (λ (s : Scope). record s { locals = drop (length s.locals - n) s.locals }) same

-- ---- declarations

none_if : {A : Type 0} (x : Option A) → is_some x ≡ false → x ≡ None
none_if None h = refl
none_if (Some a) h = absurd cc

-- whether a name is declared outside of functions
pub is_declared : (n : Bor (List ℕ)) (globals : Globals) (b : Bool) → b ≡ is_some (lookup (λ k. bytes_eq n.now k.now) globals) → is_some (find n.now (map shown_entry globals)) ≡ b
is_declared n globals b is = ap (λ (x : Option Meaning). is_some x) (sym (looked_up n.now globals)) ∙ sym is

pub inserted : {A : Type 0} (n : Bor (List ℕ)) (m : A) (globals : List (Bor (List ℕ) × A)) → find n.now (map shown_entry globals) ≡ None
    → map shown_entry (insert_entry (λ a b. bytes_eq a.now b.now) globals n m) ≡ map shown_entry globals ++ (n.now, m) ∷ []
inserted {A = A} n m [] none = refl
inserted {A = A} n m (e ∷ es) none = by (inserted n m es) (bytes_eq n.now e.0.now) none
  where
    by : (find n.now (map shown_entry es) ≡ None → map shown_entry (insert_entry (λ a b. bytes_eq a.now b.now) es n m) ≡ map shown_entry es ++ (n.now, m) ∷ []) → (b : Bool) → (if b then Some e.1 else find n.now (map shown_entry es)) ≡ None
        → map shown_entry (if b then (e.0, m) ∷ es else e ∷ insert_entry (λ a b. bytes_eq a.now b.now) es n m) ≡ shown_entry e ∷ (map shown_entry es ++ (n.now, m) ∷ [])
    by back true h = absurd cc
    by back false h = ap (λ (xs : List (List ℕ × A)). shown_entry e ∷ xs) (back h)

-- a new name stands last, and one that is declared changes nothing
pub declared_new : (structs : Structs) (globals more : Globals) (locals : List LocalName) (n : Bor (List ℕ)) (m : Meaning) (s : Scope)
    → more ≡ insert_entry (λ a b. bytes_eq a.now b.now) globals n m → shown structs globals locals ≡ s → is_some (find n.now (map shown_entry globals)) ≡ false → shown structs more locals ≡ with_name s n.now m
declared_new structs globals more locals n m s is same new =
    ap (λ (es : Globals). shown structs es locals) is
    ∙ ap (λ (gs : List (List ℕ × Meaning)). let s = shown structs globals locals in record s { globals = gs }) (inserted n m globals (none_if _ new))
    ∙ ap (λ (b : Bool). let s = shown structs globals locals in if b then s else record s { globals = s.globals ++ (n.now, m) ∷ [] }) (sym new)
    ∙ ap (λ (s : Scope). with_name s n.now m) same

pub declared_again : (structs : Structs) (globals : Globals) (locals : List LocalName) (n : Bor (List ℕ)) (m : Meaning) (s : Scope)
    → shown structs globals locals ≡ s → is_some (find n.now (map shown_entry globals)) ≡ true → s ≡ with_name s n.now m
declared_again structs globals locals n m s same there =
    sym same ∙ ap (λ (b : Bool). let s = shown structs globals locals in if b then s else record s { globals = s.globals ++ (n.now, m) ∷ [] }) (sym there)
    ∙ ap (λ (s : Scope). with_name s n.now m) same

-- ---- tags

abbrev found : ℕ → ℕ → ℕ → Option StructId
found k m l = if nat_lt m l then Some (record { 0 = k + m }) else None

found_next : (k m l : ℕ) → found (k + 1) m l ≡ found k (1 + m) (suc l)
found_next k m l = by (nat_lt m l) refl
  where
    by : (b : Bool) → nat_lt m l ≡ b → found (k + 1) m l ≡ found k (1 + m) (suc l)
    by true h = let e : nat_lt (1 + m) (suc l) ≡ true = grind arith in let f : k + 1 + m ≡ k + (1 + m) = omega arith in simp (h, e, f)
    by false h = let e : nat_lt (1 + m) (suc l) ≡ false = grind arith in simp (h, e)

by_tag : (k m l : ℕ) (x : Option StructId) (b : Bool) → x ≡ found (k + 1) m l → (if b then Some (record { 0 = k }) else x) ≡ found k (if not b then 1 + m else 0) (suc l)
by_tag k m l x true is = let e : nat_lt 0 (suc l) ≡ true = grind arith in let f : k + 0 ≡ k = omega arith in simp (e, f)
by_tag k m l x false is = is ∙ found_next k m l

numbered_tag : (n : List ℕ) (k : ℕ) (es : Structs) → struct_numbered k n (map shown_struct es) ≡ found k (position_or_len (λ x. bytes_eq n x.now) (keys_of es)) (length (keys_of es))
numbered_tag n k [] = refl
numbered_tag n k (e ∷ es) =
    by_tag k (position_or_len (λ (x : Bor (List ℕ)). bytes_eq n x.now) (keys_of es)) (length (keys_of es)) (struct_numbered (k + 1) n (map shown_struct es)) (bytes_eq n e.0.now) (numbered_tag n (k + 1) es)

abbrev named_id : Option ℕ → Option StructId
named_id None = None
named_id (Some i) = Some (record { 0 = i })

by_place : (m l : ℕ) (b : Bool) → nat_lt m l ≡ b → named_id (if b then Some m else None) ≡ found 0 m l
by_place m l true h = simp h (ap (λ (k : ℕ). Some (record { 0 = k })) (omega arith))
by_place m l false h = simp h

-- the struct of a tag is the place of the tag in the map
pub tag_place : (structs : Structs) (globals : Globals) (locals : List LocalName) (n : List ℕ) (s : Scope) (i : Option ℕ)
    → shown structs globals locals ≡ s → i ≡ position (λ x. bytes_eq n x.now) (keys_of structs) → named_id i ≡ struct_numbered 0 n s.structs
tag_place structs globals locals n s i same is =
    ap named_id is ∙ by_place (position_or_len (λ (x : Bor (List ℕ)). bytes_eq n x.now) (keys_of structs)) (length (keys_of structs)) _ refl
    ∙ sym (numbered_tag n 0 structs) ∙ ap (λ (s : Scope). struct_numbered 0 n s.structs) same

-- ---- the locals of a block

-- the latest stand first
latest : {A : Type 0} (n : ℕ) (xs : List A) → take (length xs - n) (reverse xs) ≡ reverse (drop n xs)
latest n xs =
    ap (λ k. take k (reverse xs)) (sym (length-reverse (drop n xs) ∙ length-drop n xs))
    ∙ ap (take (length (reverse (drop n xs)))) (ap reverse (sym (take-append-drop n xs)) ∙ reverse-append (take n xs) (drop n xs))
    ∙ take-append_seam (reverse (drop n xs)) (reverse (take n xs))

any_of : (p : List ℕ × Meaning → Bool) (xs : List LocalName) → list_any p (map shown_local xs) ≡ list_any (λ x. p (shown_local x)) xs
any_of p [] = refl
any_of p (x ∷ xs) = ap (λ b. p (shown_local x) || b) (any_of p xs)

-- whether one behind the earliest n passes a test
pub named_behind : (p : List ℕ × Meaning → Bool) (xs : List LocalName) (ls : List (List ℕ × Meaning)) (n : ℕ) → map shown_local (reverse xs) ≡ ls
    → list_any (λ x. p (shown_local x)) (drop n xs) ≡ list_any p (take (length ls - n) ls)
named_behind p xs ls n is =
    list_any-IsPermutation (λ x. p (shown_local x)) (drop n xs) (reverse (drop n xs)) (IsPermutation-reverse (drop n xs))
    ∙ ap (list_any (λ x. p (shown_local x))) (sym (latest n xs))
    ∙ sym (any_of p (take (length xs - n) (reverse xs)))
    ∙ ap (list_any p) (sym (take-map shown_local (length xs - n) (reverse xs)))
    ∙ ap (λ k. list_any p (take (k - n) (map shown_local (reverse xs)))) (sym (length-map (reverse xs) shown_local ∙ length-reverse xs))
    ∙ ap (λ ls. list_any p (take (length ls - n) ls)) is
