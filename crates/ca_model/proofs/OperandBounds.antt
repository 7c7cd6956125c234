-- What the rules of typing make of operands that keep within bounds.
use Rattle.std.proofs.Common.{◌≤◌, ◌<◌, ℕ, ◌+◌, max, Bool, true, false, Option, Some, None, arith}
use Rattle.std.specs.Prelude.{IfSome, if◌then◌else◌}
use Rattle.ca_tree.specs.declared.numbers.StructId.{StructId}
use Rattle.ca_tree.specs.declared.tree.Name.{Name}
use Rattle.ca_tree.specs.declared.tree.UnaryOp.{UnaryOp}
use Rattle.ca_tree.specs.declared.tree.UnaryOp.TheVariants as unary_op
use Rattle.ca_tree.specs.declared.tree.BinaryOp.{BinaryOp}
use Rattle.ca_tree.specs.declared.tree.BinaryOp.TheVariants as op
use Rattle.ca_model.specs.declared.tree.BinOp.{BinOp}
use Rattle.ca_model.specs.declared.tree.BinOp.TheVariants as typed
use Rattle.ca_model.specs.declared.tree.Place.{Place}
use Rattle.ca_model.specs.declared.tree.Exp.{Exp}
use Rattle.ca_model.specs.declared.tree.Exp.TheVariants as e
use Rattle.ca_model.specs.declared.types.ObjectType.{ObjectType}
use Rattle.ca_model.specs.declared.types.ValueType.{ValueType}
use Rattle.ca_model.specs.declared.types.Operand.{Operand}
use Rattle.ca_model.specs.declared.types.Operand.TheVariants as operand
use Rattle.ca_model.specs.declared.types.Meaning.{Meaning}
use Rattle.ca_model.specs.declared.types.Meaning.TheVariants as means
use Rattle.ca_model.specs.typing.Types.{held, load_kind, cells}
use Rattle.ca_model.specs.typing.Values.{Typed_value, also, with_type, value_of, is_int, is_scalar, int_of, scalar_of, pointed_at}
use Rattle.ca_model.specs.typing.Places.{element, pointed, address, indexed, struct_of, struct_place, struct_behind, field_at}
use Rattle.ca_model.specs.typing.Operators.{an_int, negated, denied, are_comparable, int_op, equality, displaced, sum, logical_exp, logical, binary_values, binary}
use Rattle.ca_model.specs.typing.Scopes.{Scope, field_of}
use Rattle.ca_model.specs.typing.Expressions.{of_type, named, by_unary, field_place, chosen}
use Rattle.ca_model.proofs.MissingAnswers.{also_if, also_each, if_tested}
use Rattle.ca_model.proofs.ExpressionBounds.{Fits, FitsPlace, deeper, fits_local, fits_global, fits_load, fits_address, fits_negate, fits_not, fits_binary, fits_and, fits_or, fits_element, fits_plain, fits_field}

module _ (n m : ℕ) where
  abbrev pub FitsOperand : ℕ → Operand → Type 0
  FitsOperand d (operand.Value t a) = Fits n m d a
  FitsOperand d (operand.Local t x) = Fits n m d (e.Local x)
  FitsOperand d (operand.Place t p) = FitsPlace n m d p
  FitsOperand d operand.Name = Unit {0}

  -- it is nothing, or it fits
  abbrev pub IfFits : ℕ → Option Operand → Type 0
  IfFits d o = IfSome o (FitsOperand d)

  abbrev pub FitsValue : ℕ → Typed_value → Type 0
  FitsValue d v = Fits n m d v.1

  with_type_fits : (d : ℕ) (a : Exp) (t : Option ValueType) → Fits n m d a → IfSome (with_type a t) (FitsValue d)
  with_type_fits d a None h = tt
  with_type_fits d a (Some t) h = h

  pub value_fits : (d : ℕ) (x : Operand) → FitsOperand d x → IfSome (value_of x) (FitsValue d)
  value_fits d (operand.Value t a) h = h
  value_fits d (operand.Local t x) h = with_type_fits d (e.Local x) (held t) h
  value_fits d (operand.Place t p) h = with_type_fits d (e.Load p (load_kind t)) (held t) (fits_load n m d p (load_kind t) h)
  value_fits d operand.Name h = tt

  int_fits : (d : ℕ) (v : Typed_value) → FitsValue d v → IfSome (int_of v) (Fits n m d)
  int_fits d v h = if_tested (Fits n m d) (is_int v.0) (Some v.1) h

  scalar_fits : (d : ℕ) (v : Typed_value) → FitsValue d v → IfSome (scalar_of v) (Fits n m d)
  scalar_fits d v h = if_tested (Fits n m d) (is_scalar v.0) (Some v.1) h

  -- ---- one operand

  pointed_fits : (d : ℕ) (x : Operand) → FitsOperand d x → IfFits (d + 1) (pointed x)
  pointed_fits d x h = also_if (FitsValue d) (FitsOperand (d + 1)) (value_of x) _ (value_fits d x h) (λ v hv.
      also_each (FitsOperand (d + 1)) (pointed_at v.0) _ (λ t. fits_plain n m (d + 1) v.1 true (deeper n m d (d + 1) v.1 (omega arith) hv)))

  address_fits : (d : ℕ) (x : Operand) → FitsOperand d x → IfFits (d + 1) (address x)
  address_fits d (operand.Value t a) h = tt
  address_fits d (operand.Local t x) h = tt
  address_fits d (operand.Place t p) h = deeper n m d (d + 1) (e.AddressOf p) (omega arith) (fits_address n m d p h)
  address_fits d operand.Name h = tt

  negated_fits : (d : ℕ) (x : Operand) → FitsOperand d x → IfFits (d + 1) (negated x)
  negated_fits d x h = also_if (FitsValue d) (FitsOperand (d + 1)) (value_of x) _ (value_fits d x h) (λ v hv.
      also_if (Fits n m d) (FitsOperand (d + 1)) (int_of v) _ (int_fits d v hv) (λ a ha. fits_negate n m d a ha))

  denied_fits : (d : ℕ) (x : Operand) → FitsOperand d x → IfFits (d + 1) (denied x)
  denied_fits d x h = also_if (FitsValue d) (FitsOperand (d + 1)) (value_of x) _ (value_fits d x h) (λ v hv.
      also_if (Fits n m d) (FitsOperand (d + 1)) (scalar_of v) _ (scalar_fits d v hv) (λ a ha. fits_not n m d a ha))

  pub unary_fits : (d : ℕ) (o : UnaryOp) (x : Operand) → FitsOperand d x → IfFits (d + 1) (by_unary o x)
  unary_fits d unary_op.Negate x h = negated_fits d x h
  unary_fits d unary_op.Not x h = denied_fits d x h
  unary_fits d unary_op.Deref x h = pointed_fits d x h
  unary_fits d unary_op.AddressOf x h = address_fits d x h

  -- ---- two operands

  module _ (c d : ℕ) where
    abbrev above : ℕ
    above = max c d + 1

    module _ (x y : Typed_value) (h : FitsValue c x) (i : FitsValue d y) where
      int_op_fits : (o : BinOp) → IfFits above (int_op o x y)
      int_op_fits o = also_if (Fits n m c) (FitsOperand above) (int_of x) _ (int_fits c x h) (λ a ha.
          also_if (Fits n m d) (FitsOperand above) (int_of y) _ (int_fits d y i) (λ b hb. fits_binary n m c d a b ha hb o))

      equality_fits : (o : BinOp) → IfFits above (equality o x y)
      equality_fits o = if_tested (FitsOperand above) (are_comparable x y) (an_int (e.Binary o x.1 y.1)) (fits_binary n m c d x.1 y.1 h i o)

      displaced_fits : (fields : StructId → ℕ) → IfFits above (also (pointed_at x.0) (λ t. also (int_of y) (λ i. Some (displaced fields x.1 i t))))
      displaced_fits fields = also_each (FitsOperand above) (pointed_at x.0) _ (λ t.
          also_if (Fits n m d) (FitsOperand above) (int_of y) _ (int_fits d y i) (λ b hb.
          fits_address n m above (element x.1 b (cells fields t)) (fits_element n m c d x.1 b h hb (cells fields t))))

      sum_by : (b : Bool) (o p : Option Operand) → IfFits above o → IfFits above p → IfFits above (if b then o else p)
      sum_by true o p j k = j
      sum_by false o p j k = k

      sum_fits : (fields : StructId → ℕ) → IfFits above (sum fields x y)
      sum_fits fields = sum_by (is_int x.0) (int_op typed.Add x y) _ (int_op_fits typed.Add) (displaced_fits fields)

      logical_exp_fits : (is_and : Bool) (a b : Exp) → Fits n m c a → Fits n m d b → Fits n m above (logical_exp is_and a b)
      logical_exp_fits true a b ha hb = fits_and n m c d a b ha hb
      logical_exp_fits false a b ha hb = fits_or n m c d a b ha hb

      logical_fits : (is_and : Bool) → IfFits above (logical is_and x y)
      logical_fits is_and = also_if (Fits n m c) (FitsOperand above) (scalar_of x) _ (scalar_fits c x h) (λ a ha.
          also_if (Fits n m d) (FitsOperand above) (scalar_of y) _ (scalar_fits d y i) (λ b hb. logical_exp_fits is_and a b ha hb))

      binary_values_fits : (fields : StructId → ℕ) (o : BinaryOp) → IfFits above (binary_values fields o x y)
      binary_values_fits fields op.Mul = int_op_fits typed.Mul
      binary_values_fits fields op.Div = int_op_fits typed.Div
      binary_values_fits fields op.Rem = int_op_fits typed.Rem
      binary_values_fits fields op.Add = sum_fits fields
      binary_values_fits fields op.Sub = int_op_fits typed.Sub
      binary_values_fits fields op.Less = int_op_fits typed.Less
      binary_values_fits fields op.More = int_op_fits typed.More
      binary_values_fits fields op.LessSame = int_op_fits typed.LessSame
      binary_values_fits fields op.MoreSame = int_op_fits typed.MoreSame
      binary_values_fits fields op.Same = equality_fits typed.Same
      binary_values_fits fields op.Differs = equality_fits typed.Differs
      binary_values_fits fields op.And = logical_fits true
      binary_values_fits fields op.Or = logical_fits false

    pub binary_fits : (fields : StructId → ℕ) (o : BinaryOp) (x y : Operand) → FitsOperand c x → FitsOperand d y → IfFits above (binary fields o x y)
    binary_fits fields o x y h i = also_if (FitsValue c) (FitsOperand above) (value_of x) _ (value_fits c x h) (λ v hv.
        also_if (FitsValue d) (FitsOperand above) (value_of y) _ (value_fits d y i) (λ w hw. binary_values_fits v w hv hw fields o))

    pub indexed_fits : (fields : StructId → ℕ) (x y : Operand) → FitsOperand c x → FitsOperand d y → IfFits above (indexed fields x y)
    indexed_fits fields x y h i = also_if (FitsValue c) (FitsOperand above) (value_of x) _ (value_fits c x h) (λ v hv.
        also_if (FitsValue d) (FitsOperand above) (value_of y) _ (value_fits d y i) (λ w hw.
        also_each (FitsOperand above) (pointed_at v.0) _ (λ t.
        also_if (Fits n m d) (FitsOperand above) (int_of w) _ (int_fits d w hw) (λ b hb. fits_element n m c d v.1 b hv hb (cells fields t)))))

  -- ---- fields

  abbrev FitsStruct : ℕ → StructId × Place → Type 0
  FitsStruct d x = FitsPlace n m d x.1

  pub struct_place_fits : (d : ℕ) (x : Operand) → FitsOperand d x → IfSome (struct_place x) (FitsStruct d)
  struct_place_fits d (operand.Value t a) h = tt
  struct_place_fits d (operand.Local t x) h = tt
  struct_place_fits d (operand.Place t p) h = also_each (FitsStruct d) (struct_of t) _ (λ s. h)
  struct_place_fits d operand.Name h = tt

  pub struct_behind_fits : (d : ℕ) (x : Operand) → FitsOperand d x → IfSome (struct_behind x) (FitsStruct d)
  struct_behind_fits d x h = also_if (FitsValue d) (FitsStruct d) (value_of x) _ (value_fits d x h) (λ v hv.
      also_each (FitsStruct d) (pointed_at v.0) _ (λ t. also_each (FitsStruct d) (struct_of t) _ (λ s. fits_plain n m d v.1 true hv)))

  of_type_fits : (d : ℕ) (f : ObjectType → Operand) (t : Option ObjectType) → ((u : ObjectType) → FitsOperand d (f u)) → IfFits d (of_type f t)
  of_type_fits d f None h = tt
  of_type_fits d f (Some t) h = h t

  deeper_place : (d : ℕ) (p : Place) → FitsPlace n m d p → FitsPlace n m (d + 1) p
  deeper_place d p h = record { locals = h.locals; globals = h.globals; deep = let k = h.deep in omega arith }

  field_place_fits : (d : ℕ) (p : Place) (f : Option (ℕ × Option ObjectType)) → FitsPlace n m d p → IfFits (d + 1) (field_place p f)
  field_place_fits d p None h = tt
  field_place_fits d p (Some f) h = of_type_fits (d + 1) _ f.1 (λ t. deeper_place d (field_at p f.0) (fits_field n m d p f.0 h))

  pub chosen_fits : (d : ℕ) (s : Scope) (x : Name) (a : Option (StructId × Place)) → IfSome a (FitsStruct d) → IfFits (d + 1) (chosen s x a)
  chosen_fits d s x a h = also_if (FitsStruct d) (FitsOperand (d + 1)) a _ h (λ y hy. field_place_fits d y.1 (field_of s y.0 x.text) hy)

  -- ---- names

  -- what a name means keeps within bounds
  abbrev pub Reaches : Meaning → Type 0
  Reaches (means.Global g t) = g.0 < m
  Reaches (means.Array g t) = g.0 < m
  Reaches (means.Local x t) = x.0 < n
  Reaches _ = Unit {0}

  pub named_fits : (d : ℕ) (w : Meaning) → 1 ≤ d → Reaches w → IfFits d (named w)
  named_fits d (means.Mutex k) le h = tt
  named_fits d (means.Function f) le h = tt
  named_fits d (means.Global g t) le h = of_type_fits d _ t (λ u. fits_plain n m d (e.Global g) false (fits_global n m d g le h))
  named_fits d (means.Array g t) le h = of_type_fits d _ t (λ u. fits_global n m d g le h)
  named_fits d (means.Local x t) le h = of_type_fits d _ t (λ u. fits_local n m d x le h)
