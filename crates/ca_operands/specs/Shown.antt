-- What the parts of a scope show.
use Rattle.std.specs.Prelude.{◌≡◌, ℕ, ◌≤◌, Bool, false, List, [], map, reverse, length, All, Option, Vec}
use denote.Ref.{Bor}
use Rattle.std.specs.Str.{bytes_eq}
use Rattle.std.specs.declared.alloc.Global.{Global}
use Rattle.ca_model.specs.declared.types.ObjectType.{ObjectType}
use Rattle.ca_model.specs.declared.types.Meaning.{Meaning}
use Rattle.ca_model.specs.typing.Scopes.{StructOf, Scope}
use Rattle.ca_model.specs.typing.Structs.{is_tag, with_tag}
use Rattle.ca_operands.specs.declared.scope.FieldOf.{FieldOf}
use Rattle.ca_operands.specs.declared.scope.LocalName.{LocalName}

abbrev pub Structs : Type 0
Structs = List (Bor (List ℕ) × Vec FieldOf Global)

abbrev pub Globals : Type 0
Globals = List (Bor (List ℕ) × Meaning)

abbrev pub same_text : Bor (List ℕ) → Bor (List ℕ) → Bool
same_text a b = bytes_eq a.now b.now

abbrev pub shown_field : FieldOf → List ℕ × Option ObjectType
shown_field f = (f.name.now, f.of)

abbrev pub shown_struct : Bor (List ℕ) × Vec FieldOf Global → StructOf
shown_struct x = record { tag = x.0.now; fields = map shown_field x.1.items }

-- an entry of a map by names
abbrev pub shown_entry : {A : Type 0} → Bor (List ℕ) × A → List ℕ × A
shown_entry x = (x.0.now, x.1)

abbrev pub shown_local : LocalName → List ℕ × Meaning
shown_local x = (x.name.now, x.means)

-- the latest local stands last in the code, and first here
abbrev pub shown : Structs → Globals → List LocalName → Scope
shown structs globals locals = record {
  structs = map shown_struct structs;
  globals = map shown_entry globals;
  locals = map shown_local (reverse locals);
}

-- there are at most 64 structs, and each has at most 64 fields
pub record IsSmall (structs : Structs) : Type 0 where
  pub few : length structs ≤ 64
  pub few_fields : All (λ x. length x.1.items ≤ 64) structs

-- where t is a scope with a struct that has no fields yet, u has it with these
abbrev pub Completes : Scope → Scope → List ℕ → List (List ℕ × Option ObjectType) → Type 0
Completes t u tag fields = (s : Scope) → is_tag s tag ≡ false → t ≡ with_tag s tag [] → u ≡ with_tag s tag fields
