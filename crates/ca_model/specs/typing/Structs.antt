-- Definitions of structs (C11 6.7.2.1).
use Rattle.std.specs.Prelude.{ℕ, Bool, not, ◌||◌, is_some, List, [], ◌∷◌, ◌++◌, map, Option, if◌then◌else◌}
use Rattle.std.specs.Str.{bytes_eq}
use Rattle.std.specs.List.{list_any}
use Rattle.ca_tree.specs.declared.tree.Name.{Name}
use Rattle.ca_tree.specs.declared.tree.Base.{Base}
use Rattle.ca_tree.specs.declared.tree.Declarator.{Declarator}
use Rattle.ca_tree.specs.declared.tree.Fields.{Fields as FieldsOf}
use Rattle.ca_tree.specs.declared.tree.Struct.{Struct}
use Rattle.ca_tree.specs.Names.{is_library_word}
use Rattle.ca_model.specs.declared.types.TypeFault.{TypeFault}
use Rattle.ca_model.specs.declared.types.ObjectType.{ObjectType}
use Rattle.ca_model.specs.declared.types.TypeKind.TheVariants as wrong
use Rattle.ca_model.specs.typing.Faults.{fault, unless}
use Rattle.ca_model.specs.typing.Scopes.{StructOf, Scope, struct_numbered}
use Rattle.ca_model.specs.typing.TypeNames.{written_type, type_faults}
use Rattle.ca_model.specs.typing.Known.{Known, with_faults, in_scope}

abbrev pub field : Scope → Base → Declarator → List ℕ × Option ObjectType
field s b d = (d.name.text, written_type s b d.stars)

abbrev pub fields : Scope → List FieldsOf → List (List ℕ × Option ObjectType)
fields s [] = []
fields s (f ∷ more) = map (field s f.base) f.declarators ++ fields s more

-- names that stand in one scope by themselves, behind others
abbrev pub twice_among : List (List ℕ) → List Name → List TypeFault
twice_among ns [] = []
twice_among ns (n ∷ more) = unless (not (is_library_word n.text || list_any (λ m. bytes_eq n.text m) ns)) (fault n.pos wrong.Twice) ++ twice_among (n.text ∷ ns) more

abbrev pub names_of : List FieldsOf → List Name
names_of [] = []
names_of (f ∷ more) = map (λ d. d.name) f.declarators ++ names_of more

abbrev pub base_faults : Scope → List FieldsOf → List TypeFault
base_faults s [] = []
base_faults s (f ∷ more) = type_faults s f.base ++ base_faults s more

abbrev pub is_tag : Scope → List ℕ → Bool
is_tag s n = is_some (struct_numbered 0 n s.structs)

abbrev pub with_structs : Scope → List StructOf → Scope
with_structs s xs = record s { structs = xs }

-- a struct knows itself, for fields that are pointers to it; a second definition changes nothing
abbrev pub with_tag : Scope → List ℕ → List (List ℕ × Option ObjectType) → Scope
with_tag s n fs = if is_tag s n then s else with_structs s (s.structs ++ record { tag = n; fields = fs } ∷ [])

abbrev pub struct_faults : Scope → Struct → List TypeFault
struct_faults s a =
    unless (not (is_library_word a.name.text || is_tag s a.name.text)) (fault a.name.pos wrong.Twice)
    ++ base_faults (with_tag s a.name.text []) a.fields ++ twice_among [] (names_of a.fields)

abbrev pub with_struct : Known → Struct → Known
with_struct k a =
    with_faults (in_scope k (with_tag k.context.scope a.name.text (fields (with_tag k.context.scope a.name.text []) a.fields))) (struct_faults k.context.scope a)
