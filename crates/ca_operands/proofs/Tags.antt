-- Structs by their tags, where one is declared or gets its fields.
use Rattle.std.proofs.Common.{◌≡◌, ℕ, suc, ◌+◌, ◌≤◌, Bool, true, false, List, [], ◌∷◌, ◌++◌, map, length, Some, Result, Ok, Err, OnOk, OnErr, refl, ap, sym, subst, ◌∙◌, arith}
use denote.Ref.{Bor}
use Rattle.std.specs.Prelude.{All, Vec, is_some, if◌then◌else◌}
use Rattle.std.specs.Map.{lookup}
use Rattle.std.specs.Str.{bytes_eq}
use Rattle.std.specs.declared.alloc.Global.{Global}
use Rattle.std.proofs.lemmas.List.{map-append, length-append}
use Rattle.std.proofs.lemmas.List.Elements.{All-append, All-cons, All-head, All-tail}
use Rattle.std.proofs.lemmas.Slice.Eq.{bytes_eq-Decides}
use Rattle.indexmap.specs.IndexMap.{insert_entry}
use Rattle.ca_model.specs.typing.Scopes.{StructOf, Scope, struct_numbered}
use Rattle.ca_model.specs.typing.Structs.{is_tag, with_structs, with_tag}
use Rattle.ca_operands.specs.declared.scope.FieldOf.{FieldOf}
use Rattle.ca_operands.specs.declared.scope.LocalName.{LocalName}
use Rattle.ca_operands.specs.Shown.{same_text, Structs, Globals, shown, shown_struct, shown_field, Completes, IsSmall}

abbrev Fields : Type 0
Fields = Vec FieldOf Global

abbrev a_struct : List ℕ → Fields → StructOf
a_struct n fs = record { tag = n; fields = map shown_field fs.items }

-- whether a tag is declared
pub tag_there : (n : List ℕ) (k : ℕ) (es : Structs) → is_some (lookup (λ x. bytes_eq n x.now) es) ≡ is_some (struct_numbered k n (map shown_struct es))
tag_there n k [] = refl
tag_there n k (e ∷ es) = by (tag_there n (k + 1) es) (bytes_eq n e.0.now)
  where
    by : is_some (lookup (λ x. bytes_eq n x.now) es) ≡ is_some (struct_numbered (k + 1) n (map shown_struct es)) → (b : Bool)
        → is_some (if b then Some e.1 else lookup (λ x. bytes_eq n x.now) es) ≡ is_some (if b then Some (record { 0 = k }) else struct_numbered (k + 1) n (map shown_struct es))
    by back true = refl
    by back false = back

pub is_declared_tag : (structs : Structs) (globals : Globals) (locals : List LocalName) (n : List ℕ) (s : Scope) (b : Bool) → shown structs globals locals ≡ s
    → b ≡ is_some (lookup (λ x. bytes_eq n x.now) structs) → is_tag s n ≡ b
is_declared_tag structs globals locals n s b same is = ap (λ (s : Scope). is_tag s n) (sym same) ∙ sym (tag_there n 0 structs) ∙ sym is

-- a new tag stands last, and one that is declared changes nothing
pub tag_new : (structs more : Structs) (globals : Globals) (locals : List LocalName) (n : Bor (List ℕ)) (fs : Fields) (s : Scope)
    → more ≡ structs ++ (n, fs) ∷ [] → fs.items ≡ [] → shown structs globals locals ≡ s → is_tag s n.now ≡ false → shown more globals locals ≡ with_tag s n.now []
tag_new structs more globals locals n fs s is empty same new =
    ap (λ (es : Structs). shown es globals locals) is
    ∙ ap (λ (xs : List StructOf). with_structs (shown structs globals locals) xs)
    (map-append shown_struct structs ((n, fs) ∷ []) ∙ ap (λ (gs : List FieldOf). map shown_struct structs ++ record { tag = n.now; fields = map shown_field gs } ∷ []) empty)
    ∙ ap (λ (s : Scope). with_structs s (s.structs ++ record { tag = n.now; fields = [] } ∷ [])) same
    ∙ ap (λ (b : Bool). if b then s else with_structs s (s.structs ++ record { tag = n.now; fields = [] } ∷ [])) (sym new)

pub tag_again : (n : List ℕ) (s : Scope) → is_tag s n ≡ true → s ≡ with_tag s n []
tag_again n s there = ap (λ (b : Bool). if b then s else with_structs s (s.structs ++ record { tag = n; fields = [] } ∷ [])) (sym there)

pub new_small : (structs more : Structs) (n : Bor (List ℕ)) (fs : Fields) → IsSmall structs → length structs + 1 ≤ 64 → more ≡ structs ++ (n, fs) ∷ [] → fs.items ≡ [] → IsSmall more
new_small structs more n fs small few is empty = record {
  few = let e : length more ≡ length structs + 1 = ap length is ∙ length-append structs ((n, fs) ∷ []) in omega arith;
  few_fields = rw is (All-append (λ x. length x.1.items ≤ 64) structs ((n, fs) ∷ []) small.few_fields (All-cons (λ x. length x.1.items ≤ 64) (n, fs) [] (let e : length fs.items ≡ 0 = ap length empty in omega arith) (λ k d below. absurd (omega arith))));
}

-- a tag that is declared keeps its place
pub length_kept : (es : Structs) (n : Bor (List ℕ)) (fs : Fields) → is_some (lookup (λ x. bytes_eq n.now x.now) es) ≡ true → length (insert_entry same_text es n fs) ≡ length es
length_kept [] n fs there = absurd cc
length_kept (e ∷ es) n fs there = by (length_kept es n fs) (bytes_eq n.now e.0.now) there
  where
    by : (is_some (lookup (λ x. bytes_eq n.now x.now) es) ≡ true → length (insert_entry same_text es n fs) ≡ length es) → (b : Bool)
        → is_some (if b then Some e.1 else lookup (λ x. bytes_eq n.now x.now) es) ≡ true → length (if b then (e.0, fs) ∷ es else e ∷ insert_entry same_text es n fs) ≡ suc (length es)
    by back true h = refl
    by back false h = ap suc (back h)

pub entries_small : (es : Structs) (n : Bor (List ℕ)) (fs : Fields) → length fs.items ≤ 64 → All (λ x. length x.1.items ≤ 64) es → All (λ x. length x.1.items ≤ 64) (insert_entry same_text es n fs)
entries_small [] n fs few all = All-cons (λ x. length x.1.items ≤ 64) (n, fs) [] few (λ k d below. absurd (omega arith))
entries_small (e ∷ es) n fs few all = by (entries_small es n fs few (All-tail (λ x. length x.1.items ≤ 64) e es all)) (bytes_eq n.now e.0.now)
  where
    by : All (λ x. length x.1.items ≤ 64) (insert_entry same_text es n fs) → (b : Bool) → All (λ x. length x.1.items ≤ 64) (if b then (e.0, fs) ∷ es else e ∷ insert_entry same_text es n fs)
    by back true = All-cons (λ x. length x.1.items ≤ 64) (e.0, fs) es few (All-tail (λ x. length x.1.items ≤ 64) e es all)
    by back false = All-cons (λ x. length x.1.items ≤ 64) e (insert_entry same_text es n fs) (All-head (λ x. length x.1.items ≤ 64) e es all) back

pub kept_small : (es more : Structs) (n : Bor (List ℕ)) (fs : Fields) → IsSmall es → more ≡ insert_entry same_text es n fs → length fs.items ≤ 64 → is_some (lookup (λ x. bytes_eq n.now x.now) es) ≡ true → IsSmall more
kept_small es more n fs small is few there = record {
  few = let e : length more ≡ length es = ap length is ∙ length_kept es n fs there in let f = small.few in omega arith;
  few_fields = rw is (entries_small es n fs few small.few_fields);
}

same_tag : (n : List ℕ) → bytes_eq n n ≡ true
same_tag n = (bytes_eq-Decides n n).1 refl

-- the struct that was declared last gets its fields
completed : (n : Bor (List ℕ)) (fs : Fields) (k : ℕ) (es : Structs) (xs : List StructOf) → is_some (struct_numbered k n.now xs) ≡ false → map shown_struct es ≡ xs ++ record { tag = n.now; fields = [] } ∷ []
    → map shown_struct (insert_entry same_text es n fs) ≡ xs ++ a_struct n.now fs ∷ []
completed n fs k [] [] none h = absurd cc
completed n fs k [] (y ∷ ys) none h = absurd cc
completed n fs k (e ∷ es) [] none h =
    let one : shown_struct e ≡ record { tag = n.now; fields = [] } = cc in
    let rest : map shown_struct es ≡ [] = cc in
    let same : bytes_eq n.now e.0.now ≡ true = ap (λ (s : StructOf). bytes_eq n.now s.tag) one ∙ same_tag n.now in
    ap (λ (b : Bool). map shown_struct (if b then (e.0, fs) ∷ es else e ∷ insert_entry same_text es n fs)) same
    ∙ ap (λ (s : StructOf). record { tag = s.tag; fields = map shown_field fs.items } ∷ map shown_struct es) one ∙ ap (λ (xs : List StructOf). a_struct n.now fs ∷ xs) rest
completed n fs k (e ∷ es) (y ∷ ys) none h =
    let one : shown_struct e ≡ y = cc in
    let rest : map shown_struct es ≡ ys ++ record { tag = n.now; fields = [] } ∷ [] = cc in
    by one (λ left. completed n fs (k + 1) es ys left rest) (bytes_eq n.now y.tag) refl none
  where
    by : shown_struct e ≡ y → (is_some (struct_numbered (k + 1) n.now ys) ≡ false → map shown_struct (insert_entry same_text es n fs) ≡ ys ++ a_struct n.now fs ∷ []) → (b : Bool) → bytes_eq n.now y.tag ≡ b
        → is_some (if b then Some (record { 0 = k }) else struct_numbered (k + 1) n.now ys) ≡ false
        → map shown_struct (if bytes_eq n.now e.0.now then (e.0, fs) ∷ es else e ∷ insert_entry same_text es n fs) ≡ y ∷ (ys ++ a_struct n.now fs ∷ [])
    by one back true is left = absurd cc
    by one back false is left =
        ap (λ (b : Bool). map shown_struct (if b then (e.0, fs) ∷ es else e ∷ insert_entry same_text es n fs)) (ap (λ (s : StructOf). bytes_eq n.now s.tag) one ∙ is)
        ∙ ap (λ (s : StructOf). s ∷ map shown_struct (insert_entry same_text es n fs)) one ∙ ap (λ (xs : List StructOf). y ∷ xs) (back left)

pub completes : (structs more : Structs) (globals : Globals) (locals : List LocalName) (n : Bor (List ℕ)) (fs : Fields) (t : Scope)
    → shown structs globals locals ≡ t → more ≡ insert_entry same_text structs n fs → Completes t (shown more globals locals) n.now (map shown_field fs.items)
completes structs more globals locals n fs t same is = λ s none e.
    let xs = s.structs ++ record { tag = n.now; fields = [] } ∷ [] in
    let ys = s.structs ++ a_struct n.now fs ∷ [] in
    let begun : map shown_struct structs ≡ xs = ap (λ (t : Scope). t.structs) (same ∙ e) ∙ ap (λ (b : Bool). (if b then s else with_structs s xs).structs) none in
    ap (λ (es : Structs). shown es globals locals) is
    ∙ ap (λ (zs : List StructOf). with_structs (shown structs globals locals) zs) (completed n fs 0 structs s.structs none begun)
    ∙ ap (λ (t : Scope). with_structs t ys) (same ∙ e)
    ∙ ap (λ (b : Bool). with_structs (if b then s else with_structs s xs) ys) none
    ∙ ap (λ (b : Bool). if b then s else with_structs s ys) (sym none)

-- a new tag goes last
pub last_entry : (es : Structs) (n : Bor (List ℕ)) (fs : Fields) → is_some (lookup (λ x. bytes_eq n.now x.now) es) ≡ false → insert_entry same_text es n fs ≡ es ++ (n, fs) ∷ []
last_entry [] n fs none = refl
last_entry (e ∷ es) n fs none = by (last_entry es n fs) (bytes_eq n.now e.0.now) none
  where
    by : (is_some (lookup (λ x. bytes_eq n.now x.now) es) ≡ false → insert_entry same_text es n fs ≡ es ++ (n, fs) ∷ []) → (b : Bool)
        → is_some (if b then Some e.1 else lookup (λ x. bytes_eq n.now x.now) es) ≡ false → (if b then (e.0, fs) ∷ es else e ∷ insert_entry same_text es n fs) ≡ e ∷ (es ++ (n, fs) ∷ [])
    by back true h = absurd cc
    by back false h = ap (λ (xs : Structs). e ∷ xs) (back h)

-- what holds of the entries before and behind an insertion holds whether it was made or not
pub still_small : {A E : Type 0} (r : Result A E) (es more inserted : Structs) → OnOk r (more ≡ inserted) → OnErr r (more ≡ es) → IsSmall es → IsSmall inserted → IsSmall more
still_small (Ok a) es more inserted made not_made before behind = subst IsSmall (sym made) behind
still_small (Err x) es more inserted made not_made before behind = subst IsSmall (sym not_made) before

pub if_made : {A E : Type 0} (r : Result A E) (P Q : Type 0) → OnOk r P → (P → Q) → OnOk r Q
if_made (Ok a) P Q made then_made = then_made made
if_made (Err x) P Q made then_made = tt
