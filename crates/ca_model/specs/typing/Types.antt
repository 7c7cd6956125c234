-- Types of objects and of values (C11 6.2.5), and the cells that an object takes.
use Rattle.std.specs.Prelude.{ℕ, ◌-◌, Bool, true, false, ◌&&◌, ◌==◌, Option, Some, None, if◌then◌else◌}
use Rattle.ca_tree.specs.declared.numbers.StructId.{StructId}
use Rattle.ca_model.specs.declared.tree.LoadKind.{LoadKind}
use Rattle.ca_model.specs.declared.tree.LoadKind.TheVariants as load
use Rattle.ca_model.specs.declared.types.Kind.{Kind}
use Rattle.ca_model.specs.declared.types.Kind.TheVariants as kind
use Rattle.ca_model.specs.declared.types.ObjectType.{ObjectType}
use Rattle.ca_model.specs.declared.types.ValueType.{ValueType}
use Rattle.ca_model.specs.declared.types.ValueType.TheVariants as value

abbrev pub object : Kind → ℕ → ObjectType
object k n = record { kind = k; stars = n }

abbrev pub int : ObjectType
int = object kind.Int 0

abbrev pub thread : ObjectType
thread = object kind.Thread 0

abbrev pub void : ObjectType
void = object kind.Void 0

abbrev pub void_pointer : ObjectType
void_pointer = object kind.Void 1

-- the value that an object without stars holds: a whole struct is none, and `void` holds none
abbrev pub plain_value : Kind → Option ValueType
plain_value kind.Void = None
plain_value kind.Int = Some value.Int
plain_value kind.Thread = Some value.Thread
plain_value (kind.Struct s) = None

-- the type of what an object holds
abbrev pub held : ObjectType → Option ValueType
held t = if t.stars == 0 then plain_value t.kind else Some (value.Pointer (object t.kind (t.stars - 1)))

abbrev pub same_kind : Kind → Kind → Bool
same_kind kind.Void kind.Void = true
same_kind kind.Int kind.Int = true
same_kind kind.Thread kind.Thread = true
same_kind (kind.Struct a) (kind.Struct b) = a.0 == b.0
same_kind a b = false

abbrev pub same_object : ObjectType → ObjectType → Bool
same_object a b = same_kind a.kind b.kind && a.stars == b.stars

-- `void` itself
abbrev pub is_void : ObjectType → Bool
is_void t = same_object t (object kind.Void 0)

abbrev pub plain_load : Kind → LoadKind
plain_load kind.Int = load.Int
plain_load kind.Thread = load.Thread
plain_load k = load.Pointer

abbrev pub load_kind : ObjectType → LoadKind
load_kind t = if t.stars == 0 then plain_load t.kind else load.Pointer

abbrev pub plain_cells : (StructId → ℕ) → Kind → ℕ
plain_cells fields (kind.Struct s) = fields s
plain_cells fields k = 1

-- the number of cells of an object, where a struct has that many fields
abbrev pub cells : (StructId → ℕ) → ObjectType → ℕ
cells fields t = if t.stars == 0 then plain_cells fields t.kind else 1
