-- Places by `*`, `&`, `[ ]`, `.` and `->` (C11 6.5.2.1, 6.5.2.3, 6.5.3.2). A rule has no answer where the types don't allow the operands.
use Rattle.std.specs.Prelude.{ℕ, true, ◌==◌, Option, Some, None, if◌then◌else◌}
use Rattle.ca_tree.specs.declared.numbers.StructId.{StructId}
use Rattle.ca_model.specs.declared.tree.Place.{Place}
use Rattle.ca_model.specs.declared.tree.Exp.{Exp}
use Rattle.ca_model.specs.declared.tree.Exp.TheVariants as e
use Rattle.ca_model.specs.declared.types.Kind.{Kind}
use Rattle.ca_model.specs.declared.types.Kind.TheVariants as kind
use Rattle.ca_model.specs.declared.types.ObjectType.{ObjectType}
use Rattle.ca_model.specs.declared.types.ValueType.TheVariants as value
use Rattle.ca_model.specs.declared.types.Operand.{Operand}
use Rattle.ca_model.specs.declared.types.Operand.TheVariants as operand
use Rattle.ca_model.specs.typing.Types.{cells}
use Rattle.ca_model.specs.typing.Values.{also, value_of, int_of, pointed_at}

-- a place without an index or a field: what an address names
abbrev pub behind : Exp → Place
behind a = record { base = a; index = None; field = 0; through = true }

-- an element behind an address, by its number and its cells
abbrev pub element : Exp → Exp → ℕ → Place
element a i cells = record { base = a; index = Some (i, cells); field = 0; through = true }

abbrev pub pointed : Operand → Option Operand
pointed x = also (value_of x) (λ v. also (pointed_at v.0) (λ t. Some (operand.Place t (behind v.1))))

-- the address of a place; a local has none
abbrev pub address : Operand → Option Operand
address (operand.Place t p) = Some (operand.Value (value.Pointer t) (e.AddressOf p))
address x = None

-- `a[i]`
abbrev pub indexed : (StructId → ℕ) → Operand → Operand → Option Operand
indexed fields x y =
    also (value_of x) (λ v. also (value_of y) (λ w. also (pointed_at v.0) (λ t. also (int_of w) (λ i.
    Some (operand.Place t (element v.1 i (cells fields t)))))))

-- the struct that an object is
abbrev pub plain_struct : Kind → Option StructId
plain_struct (kind.Struct s) = Some s
plain_struct k = None

abbrev pub struct_of : ObjectType → Option StructId
struct_of t = if t.stars == 0 then plain_struct t.kind else None

-- the place of a struct, for `a.f`
abbrev pub struct_place : Operand → Option (StructId × Place)
struct_place (operand.Place t p) = also (struct_of t) (λ s. Some (s, p))
struct_place x = None

-- and for `a->f`
abbrev pub struct_behind : Operand → Option (StructId × Place)
struct_behind x = also (value_of x) (λ v. also (pointed_at v.0) (λ t. also (struct_of t) (λ s. Some (s, behind v.1))))

-- its field behind so many others: a struct is no field, so its own place has none
abbrev pub field_at : Place → ℕ → Place
field_at p k = record p { field = k }
