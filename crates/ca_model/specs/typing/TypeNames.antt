-- Types as they are written (C11 6.7.2, 6.7.7). One with a tag that isn't declared is none.
use Rattle.std.specs.Prelude.{ℕ, Bool, true, List, [], Option, Some, None}
use Rattle.ca_tree.specs.declared.tree.Base.{Base}
use Rattle.ca_tree.specs.declared.tree.Base.TheVariants as base
use Rattle.ca_tree.specs.declared.tree.«Type».{«Type» as CType}
use Rattle.ca_model.specs.declared.types.TypeFault.{TypeFault}
use Rattle.ca_model.specs.declared.types.Kind.TheVariants as kind
use Rattle.ca_model.specs.declared.types.ObjectType.{ObjectType}
use Rattle.ca_model.specs.declared.types.TypeKind.TheVariants as wrong
use Rattle.ca_model.specs.typing.Faults.{fault, if_none}
use Rattle.ca_model.specs.typing.Types.{object, same_object, cells}
use Rattle.ca_model.specs.typing.Values.{also}
use Rattle.ca_model.specs.typing.Scopes.{Scope, field_count, struct_numbered}

abbrev pub written_type : Scope → Base → ℕ → Option ObjectType
written_type s base.Int k = Some (object kind.Int k)
written_type s (base.Struct n) k = also (struct_numbered 0 n.text s.structs) (λ i. Some (object (kind.Struct i) k))

abbrev pub type_faults : Scope → Base → List TypeFault
type_faults s base.Int = []
type_faults s (base.Struct n) = if_none (fault n.pos wrong.Unknown) (struct_numbered 0 n.text s.structs)

abbrev pub type_in : Scope → CType → Option ObjectType
type_in s t = written_type s t.base t.stars

abbrev pub both_same : Option ObjectType → Option ObjectType → Bool
both_same (Some t) (Some u) = same_object t u
both_same t u = true

abbrev pub cells_of : Scope → Option ObjectType → ℕ
cells_of s None = 1
cells_of s (Some t) = cells (field_count s) t
