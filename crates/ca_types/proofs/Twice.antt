-- Names that stand in one scope, one after another; and structs that get their fields.
use Rattle.std.proofs.Common.{◌≡◌, ℕ, suc, ◌+◌, ◌<◌, Bool, true, false, not, ◌||◌, List, [], ◌∷◌, ◌++◌, map, take, drop, length, get_or, Option, Some, None, refl, ap, sym, ◌∙◌, drop-cons, add-one}
use denote.Ref.{Bor}
use Rattle.std.specs.Prelude.{is_some, if◌then◌else◌}
use Rattle.std.specs.List.{list_any}
use Rattle.std.specs.Str.{bytes_eq}
use Rattle.std.proofs.Math.Seq.{take-suc}
use Rattle.std.proofs.lemmas.List.{length-append, length-map}
use Rattle.std.proofs.lemmas.List.Folds.{list_any-append}
use Rattle.std.proofs.lemmas.Slice.Eq.{bytes_eq-Decides}
use Rattle.ca_tree.specs.Names.{is_library_word}
use Rattle.ca_tree.specs.ProgramTrees.{field_count}
use Rattle.ca_tree.specs.declared.numbers.StructId.{StructId}
use Rattle.ca_tree.specs.declared.tree.Name.{Name}
use Rattle.ca_tree.specs.declared.tree.Struct.{Struct}
use Rattle.ca_tree.specs.declared.tree.Fields.{Fields as FieldsOf}
use Rattle.ca_model.specs.declared.types.ObjectType.{ObjectType}
use Rattle.ca_model.specs.declared.types.TypeFault.{TypeFault}
use Rattle.ca_model.specs.declared.types.TypeKind.TheVariants as wrong
use Rattle.ca_model.specs.typing.Faults.{fault, unless}
use Rattle.ca_model.specs.typing.Scopes.{StructOf, Scope, struct_numbered}
use Rattle.ca_model.specs.typing.Structs.{field, fields, base_faults, names_of, struct_faults, twice_among, is_tag, with_tag}
use Rattle.ca_operands.specs.Noted.{noted}
use Rattle.ca_operands.proofs.Noting.{noted_append, noted_three}

-- the names that stand before number i, in any order, and what is noted so far
pub record Seen (xs : List (Bor Name)) (f : Option TypeFault) (i : ℕ) (g : Option TypeFault) : Type 0 where
  pub before : List (List ℕ)
  pub same : (t : List ℕ) → list_any (λ m. bytes_eq t m) before ≡ list_any (λ n. bytes_eq t n.now.text) (take i xs)
  pub noted_all : noted g (twice_among before (map (λ n. n.now) (drop i xs))) ≡ noted f (twice_among [] (map (λ n. n.now) xs))

pub seen_first : (xs : List (Bor Name)) (f : Option TypeFault) → Seen xs f 0 f
seen_first xs f = record { before = []; same = λ t. refl; noted_all = refl }

or_last : (a b : Bool) → (a || b) ≡ (b || (a || false))
or_last true true = refl
or_last true false = refl
or_last false true = refl
or_last false false = refl

taken_next : (xs : List (Bor Name)) (i : ℕ) (x : Bor Name) → i < length xs → x ≡ get_or xs i x → take (i + 1) xs ≡ take i xs ++ x ∷ []
taken_next xs i x lt is = ap (λ (k : ℕ). take k xs) (add-one i) ∙ take-suc xs i x lt ∙ ap (λ (y : Bor Name). take i xs ++ y ∷ []) (sym is)

dropped_next : (xs : List (Bor Name)) (i : ℕ) (x : Bor Name) → i < length xs → x ≡ get_or xs i x → drop i xs ≡ x ∷ drop (i + 1) xs
dropped_next xs i x lt is = drop-cons xs i x lt ∙ ap (λ (y : Bor Name). y ∷ drop (suc i) xs) (sym is) ∙ ap (λ (k : ℕ). x ∷ drop k xs) (sym (add-one i))

pub seen_next : (xs : List (Bor Name)) (f : Option TypeFault) (i : ℕ) (g h : Option TypeFault) (x : Bor Name) → i < length xs → x ≡ get_or xs i x → Seen xs f i g
    → h ≡ noted g (unless (not (is_library_word x.now.text || list_any (λ n. bytes_eq x.now.text n.now.text) (take i xs))) (fault x.now.pos wrong.Twice)) → Seen xs f (i + 1) h
seen_next xs f i g h x lt is seen noted_is = record {
  before = x.now.text ∷ seen.before;
  same = λ t. ap (λ (b : Bool). bytes_eq t x.now.text || b) (seen.same t) ∙ or_last (bytes_eq t x.now.text) (list_any (λ n. bytes_eq t n.now.text) (take i xs))
      ∙ sym (list_any-append (λ n. bytes_eq t n.now.text) (take i xs) (x ∷ [])) ∙ ap (list_any (λ n. bytes_eq t n.now.text)) (sym (taken_next xs i x lt is));
  noted_all =
      let rest = twice_among (x.now.text ∷ seen.before) (map (λ (n : Bor Name). n.now) (drop (i + 1) xs)) in
      let told = λ (b : Bool). unless (not (is_library_word x.now.text || b)) (fault x.now.pos wrong.Twice) in
      ap (λ (h : Option TypeFault). noted h rest) (noted_is ∙ ap (λ (b : Bool). noted g (told b)) (sym (seen.same x.now.text)))
      ∙ sym (noted_append g (told (list_any (λ m. bytes_eq x.now.text m) seen.before)) rest)
      ∙ ap (λ (ys : List (Bor Name)). noted g (twice_among seen.before (map (λ n. n.now) ys))) (sym (dropped_next xs i x lt is)) ∙ seen.noted_all;
}

pub seen_last : (xs : List (Bor Name)) (f : Option TypeFault) (i : ℕ) (g : Option TypeFault) → Seen xs f i g → drop i xs ≡ [] → g ≡ noted f (twice_among [] (map (λ n. n.now) xs))
seen_last xs f i g seen none = sym (ap (λ (ys : List (Bor Name)). noted g (twice_among seen.before (map (λ n. n.now) ys))) none) ∙ seen.noted_all

-- ---- tags

last_tag : (n : List ℕ) (k : ℕ) (xs : List StructOf) (fs : List (List ℕ × Option ObjectType)) → is_some (struct_numbered k n (xs ++ record { tag = n; fields = fs } ∷ [])) ≡ true
last_tag n k [] fs = ap (λ (b : Bool). is_some {T = StructId} (if b then Some (record { 0 = k }) else None)) ((bytes_eq-Decides n n).1 refl)
last_tag n k (x ∷ xs) fs = by (last_tag n (k + 1) xs fs) (bytes_eq n x.tag)
  where
    by : is_some (struct_numbered (k + 1) n (xs ++ record { tag = n; fields = fs } ∷ [])) ≡ true → (b : Bool)
        → is_some (if b then Some (record { 0 = k }) else struct_numbered (k + 1) n (xs ++ record { tag = n; fields = fs } ∷ [])) ≡ true
    by back true = refl
    by back false = back

pub is_tagged : (s : Scope) (n : List ℕ) (fs : List (List ℕ × Option ObjectType)) → is_tag (with_tag s n fs) n ≡ true
is_tagged s n fs = by (is_tag s n) refl
  where
    by : (b : Bool) → is_tag s n ≡ b → is_tag (if b then s else record s { structs = s.structs ++ record { tag = n; fields = fs } ∷ [] }) n ≡ true
    by true there = there
    by false new = last_tag n 0 s.structs fs

pub length_fields : (s : Scope) (gs : List FieldsOf) → length (fields s gs) ≡ field_count gs
length_fields s [] = refl
length_fields s (g ∷ more) = length-append (map (field s g.base) g.declarators) (fields s more) ∙ ap (λ (k : ℕ). k + length (fields s more)) (length-map g.declarators (field s g.base)) ∙ ap (λ (k : ℕ). length g.declarators + k) (length_fields s more)

-- the faults of a definition, one after another
pub struct_noted : (s t : Scope) (a : Struct) (f g h i : Option TypeFault) (n : List ℕ) (gs : List FieldsOf) (free : Bool) → n ≡ a.name.text → gs ≡ a.fields → t ≡ with_tag s n []
    → free ≡ not (is_library_word n || is_tag s n) → g ≡ noted f (unless free (fault a.name.pos wrong.Twice)) → h ≡ noted g (base_faults t gs) → i ≡ noted h (twice_among [] (names_of gs))
    → i ≡ noted f (struct_faults s a)
struct_noted s t a f g h i n gs free name groups declared is_free one two three =
    noted_three f g h i (unless (not (is_library_word a.name.text || is_tag s a.name.text)) (fault a.name.pos wrong.Twice)) (base_faults (with_tag s a.name.text []) a.fields) (twice_among [] (names_of a.fields))
    (one ∙ ap (λ (b : Bool). noted f (unless b (fault a.name.pos wrong.Twice))) (is_free ∙ ap (λ (n : List ℕ). not (is_library_word n || is_tag s n)) name))
    (two ∙ ap (λ (t : Scope). noted g (base_faults t gs)) (declared ∙ ap (λ (n : List ℕ). with_tag s n []) name) ∙ ap (λ (gs : List FieldsOf). noted g (base_faults (with_tag s a.name.text []) gs)) groups)
    (three ∙ ap (λ (gs : List FieldsOf). noted h (twice_among [] (names_of gs))) groups)
