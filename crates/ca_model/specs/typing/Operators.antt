-- What operators take and give (C11 6.5.3 and 6.5.5 to 6.5.14). A rule has no answer where the types don't allow the operands.
use Rattle.std.specs.Prelude.{ℕ, Bool, true, false, ◌&&◌, ◌||◌, Option, Some, None, if◌then◌else◌}
use Rattle.ca_tree.specs.declared.numbers.StructId.{StructId}
use Rattle.ca_tree.specs.declared.tree.BinaryOp.{BinaryOp}
use Rattle.ca_tree.specs.declared.tree.BinaryOp.TheVariants as op
use Rattle.ca_model.specs.declared.tree.BinOp.{BinOp}
use Rattle.ca_model.specs.declared.tree.BinOp.TheVariants as typed
use Rattle.ca_model.specs.declared.tree.Exp.{Exp}
use Rattle.ca_model.specs.declared.tree.Exp.TheVariants as e
use Rattle.ca_model.specs.declared.types.ObjectType.{ObjectType}
use Rattle.ca_model.specs.declared.types.ValueType.{ValueType}
use Rattle.ca_model.specs.declared.types.ValueType.TheVariants as value
use Rattle.ca_model.specs.declared.types.Operand.{Operand}
use Rattle.ca_model.specs.declared.types.Operand.TheVariants as operand
use Rattle.ca_model.specs.typing.Types.{same_object, is_void, cells}
use Rattle.ca_model.specs.typing.Values.{Typed_value, also, value_of, is_int, is_zero, int_of, scalar_of, pointed_at}
use Rattle.ca_model.specs.typing.Places.{element}

abbrev pub an_int : Exp → Option Operand
an_int a = Some (operand.Value value.Int a)

abbrev pub negated : Operand → Option Operand
negated x = also (value_of x) (λ v. also (int_of v) (λ a. an_int (e.Negate a)))

abbrev pub denied : Operand → Option Operand
denied x = also (value_of x) (λ v. also (scalar_of v) (λ a. an_int (e.Not a)))

-- a pointer may be compared with one of its type, with `NULL`, with 0 and with a `void *` (C11 6.5.9)
abbrev pub is_like : ValueType → ValueType → Exp → Bool
is_like (value.Pointer t) (value.Pointer u) b = same_object t u || is_void u
is_like (value.Pointer t) value.Null b = true
is_like (value.Pointer t) value.Int b = is_zero b
is_like value.Null value.Null b = true
is_like value.Null (value.Pointer u) b = is_void u
is_like value.Null value.Int b = is_zero b
is_like t u b = false

abbrev pub are_comparable : Typed_value → Typed_value → Bool
are_comparable x y = (is_int x.0 && is_int y.0) || (is_like x.0 y.0 y.1 || is_like y.0 x.0 x.1)

-- an `int` of two operands that a test allows
abbrev pub int_op : BinOp → Typed_value → Typed_value → Option Operand
int_op o x y = also (int_of x) (λ a. also (int_of y) (λ b. an_int (e.Binary o a b)))

abbrev pub equality : BinOp → Typed_value → Typed_value → Option Operand
equality o x y = if are_comparable x y then an_int (e.Binary o x.1 y.1) else None

-- a pointer plus an `int` is a pointer
abbrev pub displaced : (StructId → ℕ) → Exp → Exp → ObjectType → Operand
displaced fields a i t = operand.Value (value.Pointer t) (e.AddressOf (element a i (cells fields t)))

abbrev pub sum : (StructId → ℕ) → Typed_value → Typed_value → Option Operand
sum fields x y =
    if is_int x.0
    then int_op typed.Add x y
    else also (pointed_at x.0) (λ t. also (int_of y) (λ i. Some (displaced fields x.1 i t)))

-- `&&` and `||` (C11 6.5.13, 6.5.14)
abbrev pub logical_exp : Bool → Exp → Exp → Exp
logical_exp true a b = e.And a b
logical_exp false a b = e.Or a b

abbrev pub logical : Bool → Typed_value → Typed_value → Option Operand
logical is_and x y = also (scalar_of x) (λ a. also (scalar_of y) (λ b. an_int (logical_exp is_and a b)))

abbrev pub binary_values : (StructId → ℕ) → BinaryOp → Typed_value → Typed_value → Option Operand
binary_values fields op.Mul x y = int_op typed.Mul x y
binary_values fields op.Div x y = int_op typed.Div x y
binary_values fields op.Rem x y = int_op typed.Rem x y
binary_values fields op.Add x y = sum fields x y
binary_values fields op.Sub x y = int_op typed.Sub x y
binary_values fields op.Less x y = int_op typed.Less x y
binary_values fields op.More x y = int_op typed.More x y
binary_values fields op.LessSame x y = int_op typed.LessSame x y
binary_values fields op.MoreSame x y = int_op typed.MoreSame x y
binary_values fields op.Same x y = equality typed.Same x y
binary_values fields op.Differs x y = equality typed.Differs x y
binary_values fields op.And x y = logical true x y
binary_values fields op.Or x y = logical false x y

abbrev pub binary : (StructId → ℕ) → BinaryOp → Operand → Operand → Option Operand
binary fields o x y = also (value_of x) (λ a. also (value_of y) (λ b. binary_values fields o a b))
