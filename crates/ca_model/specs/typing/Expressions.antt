-- What an expression is, with its typed tree, and what is wrong in it. An expression with a part that was refused is nothing, and nothing more is wrong with it.
use Rattle.std.specs.Prelude.{ℕ, Bool, true, false, List, [], ◌∷◌, ◌++◌, Option, Some, None, if◌then◌else◌}
use Rattle.ca_tree.specs.declared.text.Pos.{Pos}
use Rattle.ca_tree.specs.declared.numbers.StructId.{StructId}
use Rattle.ca_tree.specs.declared.tree.UnaryOp.{UnaryOp}
use Rattle.ca_tree.specs.declared.numbers.GlobalId.{GlobalId}
use Rattle.ca_tree.specs.declared.tree.Name.{Name}
use Rattle.ca_tree.specs.declared.tree.UnaryOp.TheVariants as unary_op
use Rattle.ca_tree.specs.declared.tree.Exp.{Exp, fold-Exp}
use Rattle.ca_tree.specs.declared.tree.Exp.TheOpen.{Exp-F}
use Rattle.ca_model.specs.declared.tree.Place.{Place}
use Rattle.ca_model.specs.declared.tree.Exp.TheVariants as e
use Rattle.ca_model.specs.declared.types.TypeFault.{TypeFault}
use Rattle.ca_model.specs.declared.types.ObjectType.{ObjectType}
use Rattle.ca_model.specs.declared.types.ValueType.TheVariants as value
use Rattle.ca_model.specs.declared.types.Operand.{Operand}
use Rattle.ca_model.specs.declared.types.Operand.TheVariants as operand
use Rattle.ca_model.specs.declared.types.Meaning.{Meaning}
use Rattle.ca_model.specs.declared.types.Meaning.TheVariants as means
use Rattle.ca_model.specs.declared.types.TypeKind.TheVariants as wrong
use Rattle.ca_model.specs.typing.Faults.{fault, if_none, given}
use Rattle.ca_model.specs.typing.Values.{also}
use Rattle.ca_model.specs.typing.Places.{pointed, address, indexed, struct_place, struct_behind, field_at}
use Rattle.ca_model.specs.typing.Operators.{negated, denied, binary}
use Rattle.ca_model.specs.typing.Scopes.{Scope, meaning, field_count, field_of}

-- the place of an expression, what it is where nothing in it is refused, and the faults in it
pub record Judged : Type 0 where
  pub pos : Pos
  pub is : Option Operand
  pub faults : List TypeFault
  -- whether an expression of this form can be a place: a name, `*e`, `e[i]`, `e.f` and `e->f` can (C11 6.3.2.1)
  pub may_be_place : Bool

abbrev pub both : {A B : Type 0} → Option A → Option B → Option (A × B)
both None y = None
both (Some x) None = None
both (Some x) (Some y) = Some (x, y)

-- what a rule makes of typed parts, and what is wrong with them, beside the faults in them
abbrev pub ruled : {A : Type 0} → Pos → Bool → List TypeFault → Option A → (A → Option Operand) → (A → List TypeFault) → Judged
ruled p may_be_place fs parts rule wrong = record { pos = p; is = also parts rule; faults = fs ++ given parts wrong; may_be_place = may_be_place }

abbrev pub of_type : (ObjectType → Operand) → Option ObjectType → Option Operand
of_type f None = None
of_type f (Some t) = Some (f t)

-- the cell of a global itself
abbrev pub global_place : GlobalId → Place
global_place g = record { base = e.Global g; index = None; field = 0; through = false }

-- what a name is; an array is the address of its first cell (C11 6.3.2.1)
abbrev pub named : Meaning → Option Operand
named (means.Mutex m) = Some operand.Name
named (means.Function f) = Some operand.Name
named (means.Global g t) = of_type (λ t. operand.Place t (global_place g)) t
named (means.Array g t) = of_type (λ t. operand.Value (value.Pointer t) (e.Global g)) t
named (means.Local x t) = of_type (λ t. operand.Local t x) t

abbrev pub by_unary : UnaryOp → Operand → Option Operand
by_unary unary_op.Negate x = negated x
by_unary unary_op.Not x = denied x
by_unary unary_op.Deref x = pointed x
by_unary unary_op.AddressOf x = address x

-- no place: by its form, whatever is refused in it; else by what it is
abbrev pub no_place : {A : Type 0} → Judged → (Operand → Option A) → List TypeFault
no_place a f = if a.may_be_place then given a.is (λ x. if_none (fault a.pos wrong.NotLvalue) (f x)) else fault a.pos wrong.NotLvalue ∷ []

-- an `&` wants a place, whatever its type is; every other operator is wrong at the whole
abbrev pub unary_faults : UnaryOp → Pos → Judged → List TypeFault
unary_faults unary_op.AddressOf p a = no_place a address
unary_faults o p a = given a.is (λ x. if_none (fault p wrong.Mismatch) (by_unary o x))

abbrev pub is_deref : UnaryOp → Bool
is_deref unary_op.Deref = true
is_deref o = false

-- a field of a struct, where it has one of that name, and its type isn't refused
abbrev pub field_place : Place → Option (ℕ × Option ObjectType) → Option Operand
field_place p None = None
field_place p (Some f) = of_type (λ t. operand.Place t (field_at p f.0)) f.1

abbrev pub chosen : Scope → Name → Option (StructId × Place) → Option Operand
chosen s n a = also a (λ x. field_place x.1 (field_of s x.0 n.text))

-- at the whole, where that is no field of a struct; at the field's name, where the struct has none of that name
abbrev pub not_chosen : Scope → Pos → Name → Option (StructId × Place) → List TypeFault
not_chosen s p n None = fault p wrong.Mismatch ∷ []
not_chosen s p n (Some x) = if_none (fault n.pos wrong.Unknown) (field_of s x.0 n.text)

abbrev pub exp_step : Scope → Exp-F Judged → Judged
exp_step s (Exp-F.Number p n) = record { pos = p; is = Some (operand.Value value.Int (e.Num n)); faults = []; may_be_place = false }
exp_step s (Exp-F.Null p) = record { pos = p; is = Some (operand.Value value.Null e.Null); faults = []; may_be_place = false }
exp_step s (Exp-F.Name n) = record { pos = n.pos; is = also (meaning s n.text) named; faults = if_none (fault n.pos wrong.Unknown) (meaning s n.text); may_be_place = true }
exp_step s (Exp-F.Unary p o a) = record { pos = p; is = also a.is (by_unary o); faults = a.faults ++ unary_faults o p a; may_be_place = is_deref o }
exp_step s (Exp-F.Binary p o a b) =
    ruled p false (a.faults ++ b.faults) (both a.is b.is) (λ x. binary (field_count s) o x.0 x.1) (λ x. if_none (fault p wrong.Mismatch) (binary (field_count s) o x.0 x.1))
exp_step s (Exp-F.Index p a i) =
    ruled p true (a.faults ++ i.faults) (both a.is i.is) (λ x. indexed (field_count s) x.0 x.1) (λ x. if_none (fault p wrong.Mismatch) (indexed (field_count s) x.0 x.1))
exp_step s (Exp-F.Field p a n) = ruled p true a.faults a.is (λ x. chosen s n (struct_place x)) (λ x. not_chosen s p n (struct_place x))
exp_step s (Exp-F.Arrow p a n) = ruled p true a.faults a.is (λ x. chosen s n (struct_behind x)) (λ x. not_chosen s p n (struct_behind x))

abbrev pub judged : Scope → Exp → Judged
judged s = fold-Exp Judged (exp_step s)
