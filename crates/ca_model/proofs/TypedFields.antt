-- Structs of whose fields no type was refused.
use Rattle.std.proofs.Common.{◌≡◌, ℕ, zero, suc, ◌+◌, Bool, true, false, List, [], ◌∷◌, ◌++◌, map, Option}
use Rattle.std.specs.Prelude.{slice_get, IfSome, if◌then◌else◌}
use Rattle.std.specs.Option.{is_some}
use Rattle.std.specs.Str.{bytes_eq}
use Rattle.ca_tree.specs.declared.numbers.StructId.{StructId}
use Rattle.ca_tree.specs.declared.tree.Base.{Base}
use Rattle.ca_tree.specs.declared.tree.Declarator.{Declarator}
use Rattle.ca_tree.specs.declared.tree.Fields.{Fields as FieldsOf}
use Rattle.ca_model.specs.declared.types.ObjectType.{ObjectType}
use Rattle.ca_model.specs.typing.Scopes.{StructOf, Scope, fields_or_none, numbered, field_of}
use Rattle.ca_model.specs.typing.TypeNames.{type_faults}
use Rattle.ca_model.specs.typing.Structs.{field, fields, base_faults, is_tag, with_structs, with_tag}
use Rattle.ca_model.proofs.EmptyFaults.{none_in}
use Rattle.ca_model.proofs.ExpressionsThere.{Typed_field}
use Rattle.ca_model.proofs.MissingAnswers.{if_found}
use Rattle.ca_model.proofs.TypesThere.{type_there}

abbrev pub AllTyped : List (List ℕ × Option ObjectType) → Type 0
AllTyped [] = Unit {0}
AllTyped (f ∷ fs) = (is_some f.1 ≡ true) × AllTyped fs

-- so are the fields of each struct
abbrev pub EachTyped : List StructOf → Type 0
EachTyped [] = Unit {0}
EachTyped (s ∷ ss) = AllTyped s.fields × EachTyped ss

numbered_typed : (k : ℕ) (n : List ℕ) (fs : List (List ℕ × Option ObjectType)) → AllTyped fs → IfSome (numbered k n fs) Typed_field
numbered_typed k n [] h = tt
numbered_typed k n (f ∷ fs) h = if_found Typed_field (bytes_eq n f.0) (k, f.1) (numbered (k + 1) n fs) h.0 (numbered_typed (k + 1) n fs h.1)

of_struct : (ss : List StructOf) (i : ℕ) → EachTyped ss → AllTyped (fields_or_none (slice_get ss i))
of_struct [] i h = tt
of_struct (s ∷ ss) zero h = h.0
of_struct (s ∷ ss) (suc i) h = of_struct ss i h.1

-- a field that is found has a type
pub field_typed : (s : Scope) (i : StructId) (n : List ℕ) → EachTyped s.structs → IfSome (field_of s i n) Typed_field
field_typed s i n h = numbered_typed 0 n (fields_or_none (slice_get s.structs i.0)) (of_struct s.structs i.0 h)

-- ---- one struct more

both_typed : (fs gs : List (List ℕ × Option ObjectType)) → AllTyped fs → AllTyped gs → AllTyped (fs ++ gs)
both_typed [] gs h more = more
both_typed (f ∷ fs) gs h more = (h.0, both_typed fs gs h.1 more)

declared_typed : (s : Scope) (b : Base) (ds : List Declarator) → type_faults s b ≡ [] → AllTyped (map (field s b) ds)
declared_typed s b [] none = tt
declared_typed s b (d ∷ ds) none = (type_there s b d.stars none, declared_typed s b ds none)

pub fields_typed : (s : Scope) (fs : List FieldsOf) → base_faults s fs ≡ [] → AllTyped (fields s fs)
fields_typed s [] none = tt
fields_typed s (f ∷ more) none =
    let parts = none_in (type_faults s f.base) (base_faults s more) none in
    both_typed (map (field s f.base) f.declarators) (fields s more) (declared_typed s f.base f.declarators parts.0) (fields_typed s more parts.1)

one_more : (ss : List StructOf) (s : StructOf) → EachTyped ss → AllTyped s.fields → EachTyped (ss ++ s ∷ [])
one_more [] s h typed = (typed, tt)
one_more (r ∷ ss) s h typed = (h.0, one_more ss s h.1 typed)

tag_by : (b : Bool) (s : Scope) (x : StructOf) → EachTyped s.structs → AllTyped x.fields → EachTyped (if b then s else with_structs s (s.structs ++ x ∷ [])).structs
tag_by true s x h typed = h
tag_by false s x h typed = one_more s.structs x h typed

pub tag_typed : (s : Scope) (n : List ℕ) (fs : List (List ℕ × Option ObjectType)) → EachTyped s.structs → AllTyped fs → EachTyped (with_tag s n fs).structs
tag_typed s n fs h typed = tag_by (is_tag s n) s (record { tag = n; fields = fs }) h typed
