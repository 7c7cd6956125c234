-- What is visible at a place of a program, and what a name means there (C11 6.2.1).
use Rattle.std.specs.Prelude.{ℕ, ◌+◌, List, [], ◌∷◌, length, Option, Some, None, slice_get, if◌then◌else◌}
use Rattle.std.specs.Str.{bytes_eq}
use Rattle.ca_tree.specs.declared.numbers.StructId.{StructId}
use Rattle.ca_tree.specs.declared.numbers.FunId.{FunId}
use Rattle.ca_model.specs.declared.types.ObjectType.{ObjectType}
use Rattle.ca_model.specs.declared.types.Meaning.{Meaning}

-- a struct: its tag, and its fields in order, each with its type where that isn't refused
pub record StructOf : Type 0 where
  pub tag : List ℕ
  pub fields : List (List ℕ × Option ObjectType)

-- a function by its types: what it gives, and what its parameters take; a refused type is none
pub record Signature : Type 0 where
  pub result : Option ObjectType
  pub parameters : List (Option ObjectType)

-- a function by its declarations so far: the first decides on calls
pub record FunctionOf : Type 0 where
  pub first : Signature
  pub definition : Option Signature
  pub prototypes : List Signature

-- the structs and the names outside of functions that are declared so far, and the visible parameters and locals, the latest first
pub record Scope : Type 0 where
  pub structs : List StructOf
  pub globals : List (List ℕ × Meaning)
  pub locals : List (List ℕ × Meaning)

-- with the functions that are declared so far, and the names of those that the whole program defines, in order
pub record Context : Type 0 where
  pub scope : Scope
  pub functions : List FunctionOf
  pub defined : List (List ℕ)

-- what stands beside the first such name
abbrev pub find : {A : Type 0} → List ℕ → List (List ℕ × A) → Option A
find n [] = None
find n (x ∷ xs) = if bytes_eq n x.0 then Some x.1 else find n xs

abbrev pub or_else : {A : Type 0} → Option A → Option A → Option A
or_else None y = y
or_else (Some x) y = Some x

-- an inner name hides an outer one
abbrev pub meaning : Scope → List ℕ → Option Meaning
meaning s n = or_else (find n s.locals) (find n s.globals)

abbrev pub fields_or_none : Option StructOf → List (List ℕ × Option ObjectType)
fields_or_none None = []
fields_or_none (Some x) = x.fields

abbrev pub fields_of : Scope → StructId → List (List ℕ × Option ObjectType)
fields_of s n = fields_or_none (slice_get s.structs n.0)

-- the cells of a struct are its fields, one for each
abbrev pub field_count : Scope → StructId → ℕ
field_count s n = length (fields_of s n)

-- the number of a field and its type
abbrev pub numbered : {A : Type 0} → ℕ → List ℕ → List (List ℕ × A) → Option (ℕ × A)
numbered k n [] = None
numbered k n (x ∷ xs) = if bytes_eq n x.0 then Some (k, x.1) else numbered (k + 1) n xs

abbrev pub field_of : Scope → StructId → List ℕ → Option (ℕ × Option ObjectType)
field_of s i n = numbered 0 n (fields_of s i)

-- a struct by its tag
abbrev pub struct_numbered : ℕ → List ℕ → List StructOf → Option StructId
struct_numbered k n [] = None
struct_numbered k n (x ∷ xs) = if bytes_eq n x.tag then Some (record { 0 = k }) else struct_numbered (k + 1) n xs

-- the number of the first definition with a name; 0 where there is none
abbrev pub defined_as : ℕ → List ℕ → List (List ℕ) → ℕ
defined_as k n [] = 0
defined_as k n (x ∷ xs) = if bytes_eq n x then k else defined_as (k + 1) n xs

abbrev pub function_id : Context → List ℕ → FunId
function_id k n = record { 0 = defined_as 0 n k.defined }

abbrev pub function_at : Context → ℕ → Option FunctionOf
function_at k i = slice_get k.functions i
