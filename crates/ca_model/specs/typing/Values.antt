-- Operands as values (C11 6.3.2.1), and which values go where (C11 6.5.16.1).
use Rattle.std.specs.Prelude.{pos, Bool, true, false, ◌||◌, Option, Some, None, if◌then◌else◌}
use Rattle.std.specs.Ordering.{int_eq}
use Rattle.ca_model.specs.declared.tree.Exp.{Exp}
use Rattle.ca_model.specs.declared.tree.Exp.TheVariants as e
use Rattle.ca_model.specs.declared.types.ObjectType.{ObjectType}
use Rattle.ca_model.specs.declared.types.ValueType.{ValueType}
use Rattle.ca_model.specs.declared.types.ValueType.TheVariants as value
use Rattle.ca_model.specs.declared.types.Operand.{Operand}
use Rattle.ca_model.specs.declared.types.Operand.TheVariants as operand
use Rattle.ca_model.specs.typing.Types.{held, same_object, is_void, load_kind}

-- a value with its type
abbrev pub Typed_value : Type 0
Typed_value = ValueType × Exp

abbrev pub also : {A B : Type 0} → Option A → (A → Option B) → Option B
also None f = None
also (Some x) f = f x

abbrev pub with_type : Exp → Option ValueType → Option Typed_value
with_type a None = None
with_type a (Some t) = Some (t, a)

-- what an operand is as a value: what stands in an object is loaded
abbrev pub value_of : Operand → Option Typed_value
value_of (operand.Value t a) = Some (t, a)
value_of (operand.Local t x) = with_type (e.Local x) (held t)
value_of (operand.Place t p) = with_type (e.Load p (load_kind t)) (held t)
value_of operand.Name = None

-- a condition, an operand of `!`, `&&` or `||`
abbrev pub is_scalar : ValueType → Bool
is_scalar value.Thread = false
is_scalar t = true

abbrev pub is_int : ValueType → Bool
is_int value.Int = true
is_int t = false

-- the number 0, as it is written
abbrev pub is_zero : Exp → Bool
is_zero (e.Num n) = int_eq n (pos 0)
is_zero a = false

-- a pointer to t goes into an object of type u
abbrev pub pointer_fits : ObjectType → Option ValueType → Bool
pointer_fits t (Some (value.Pointer u)) = same_object t u || (is_void t || is_void u)
pointer_fits t v = false

abbrev pub is_pointer : Option ValueType → Bool
is_pointer (Some (value.Pointer u)) = true
is_pointer v = false

abbrev pub takes_int : Option ValueType → Exp → Bool
takes_int (Some value.Int) a = true
takes_int (Some (value.Pointer u)) a = is_zero a
takes_int v a = false

abbrev pub takes_thread : Option ValueType → Bool
takes_thread (Some value.Thread) = true
takes_thread v = false

abbrev pub goes_into : Option ValueType → ValueType → Exp → Bool
goes_into v value.Int a = takes_int v a
goes_into v value.Thread a = takes_thread v
goes_into v value.Null a = is_pointer v
goes_into v (value.Pointer t) a = pointer_fits t v

-- a value goes into an object of its own type; `NULL`, 0 and a `void *` go into any pointer, and any pointer into a `void *` (C11 6.5.16.1)
abbrev pub fits : ObjectType → Typed_value → Bool
fits t x = goes_into (held t) x.0 x.1

-- of a value, where its type allows it
abbrev pub int_of : Typed_value → Option Exp
int_of x = if is_int x.0 then Some x.1 else None

abbrev pub scalar_of : Typed_value → Option Exp
scalar_of x = if is_scalar x.0 then Some x.1 else None

abbrev pub pointed_at : ValueType → Option ObjectType
pointed_at (value.Pointer t) = if is_void t then None else Some t
pointed_at t = None
