-- What an expression is keeps within bounds where each visible name does, and is no deeper than its tree.
use Rattle.std.proofs.Common.{◌≤◌, ℕ, ◌+◌, max, List, Option, Some, None, arith, sym, subst}
use Rattle.std.specs.Prelude.{pos, IfSome}
use Rattle.ca_tree.specs.declared.tree.Exp.{Exp, roll-Exp, ind-Exp, map-Exp, fold-roll-Exp}
use Rattle.ca_tree.specs.declared.tree.Exp.TheOpen.{Exp-F}
use Rattle.ca_tree.specs.ExpressionTrees.{depth_step, depth}
use Rattle.ca_model.specs.declared.types.Operand.{Operand}
use Rattle.ca_model.specs.typing.Values.{Typed_value, also, value_of}
use Rattle.ca_model.specs.typing.Scopes.{Scope, meaning, field_count}
use Rattle.ca_model.specs.typing.Places.{indexed, struct_place, struct_behind}
use Rattle.ca_model.specs.typing.Operators.{binary}
use Rattle.ca_model.specs.typing.Expressions.{Judged, both, named, by_unary, chosen, exp_step, judged}
use Rattle.ca_model.specs.typing.Uses.{value_or_zero, value_in}
use Rattle.ca_model.proofs.MissingAnswers.{also_if, both_if, weaker}
use Rattle.ca_model.proofs.ExpressionBounds.{Fits, deeper, fits_num, fits_null}
use Rattle.ca_model.proofs.OperandBounds.{FitsOperand, IfFits, FitsValue, value_fits, unary_fits, binary_fits, indexed_fits, struct_place_fits, struct_behind_fits, chosen_fits, Reaches, named_fits}

-- each visible name keeps within bounds
abbrev pub Sees : ℕ → ℕ → Scope → Type 0
Sees n m s = (x : List ℕ) → IfSome (meaning s x) (Reaches n m)

module _ (n m : ℕ) (s : Scope) (sees : Sees n m s) where
  abbrev Holds : Exp → Type 0
  Holds a = IfFits n m (depth a) (judged s a).is

  abbrev Such : Type 0
  Such = (a : Exp) × Holds a

  abbrev tree : Exp-F Such → Exp-F Exp
  tree x = map-Exp Such Exp (λ a. a.0) x

  abbrev Level : Exp-F Exp → Type 0
  Level x = IfFits n m (depth_step (map-Exp Exp ℕ depth x)) (exp_step s (map-Exp Exp Judged (judged s) x)).is

  each : (x : Exp-F Such) → Level (tree x)
  each (Exp-F.Number p k) = fits_num n m 1 k (omega arith)
  each (Exp-F.Null p) = fits_null n m 1 (omega arith)
  each (Exp-F.Name x) = also_if (Reaches n m) (FitsOperand n m 1) (meaning s x.text) named (sees x.text) (λ w h. named_fits n m 1 w (omega arith) h)
  each (Exp-F.Unary p o a) =
      also_if (FitsOperand n m (depth a.0)) (FitsOperand n m (depth a.0 + 1)) (judged s a.0).is (by_unary o) a.1 (λ x h. unary_fits n m (depth a.0) o x h)
  each (Exp-F.Binary p o a b) =
      also_if (λ (z : Operand × Operand). FitsOperand n m (depth a.0) z.0 × FitsOperand n m (depth b.0) z.1) (FitsOperand n m (max (depth a.0) (depth b.0) + 1)) (both (judged s a.0).is (judged s b.0).is)
      (λ z. binary (field_count s) o z.0 z.1)
      (both_if (FitsOperand n m (depth a.0)) (FitsOperand n m (depth b.0)) (judged s a.0).is (judged s b.0).is a.1 b.1)
      (λ z h. binary_fits n m (depth a.0) (depth b.0) (field_count s) o z.0 z.1 h.0 h.1)
  each (Exp-F.Index p a i) =
      also_if (λ (z : Operand × Operand). FitsOperand n m (depth a.0) z.0 × FitsOperand n m (depth i.0) z.1) (FitsOperand n m (max (depth a.0) (depth i.0) + 1)) (both (judged s a.0).is (judged s i.0).is)
      (λ z. indexed (field_count s) z.0 z.1)
      (both_if (FitsOperand n m (depth a.0)) (FitsOperand n m (depth i.0)) (judged s a.0).is (judged s i.0).is a.1 i.1)
      (λ z h. indexed_fits n m (depth a.0) (depth i.0) (field_count s) z.0 z.1 h.0 h.1)
  each (Exp-F.Field p a x) =
      also_if (FitsOperand n m (depth a.0)) (FitsOperand n m (depth a.0 + 1)) (judged s a.0).is (λ z. chosen s x (struct_place z)) a.1
      (λ z h. chosen_fits n m (depth a.0) s x (struct_place z) (struct_place_fits n m (depth a.0) z h))
  each (Exp-F.Arrow p a x) =
      also_if (FitsOperand n m (depth a.0)) (FitsOperand n m (depth a.0 + 1)) (judged s a.0).is (λ z. chosen s x (struct_behind z)) a.1
      (λ z h. chosen_fits n m (depth a.0) s x (struct_behind z) (struct_behind_fits n m (depth a.0) z h))

  of_level : (x : Exp-F Exp) → Level x → Holds (roll-Exp x)
  of_level x h =
      subst (λ (j : Judged). IfFits n m (depth (roll-Exp x)) j.is) (sym (fold-roll-Exp Judged (exp_step s) x))
      (subst (λ d. IfFits n m d (exp_step s (map-Exp Exp Judged (judged s) x)).is) (sym (fold-roll-Exp ℕ depth_step x)) h)

  pub operand_fits : (a : Exp) → IfFits n m (depth a) (judged s a).is
  operand_fits = ind-Exp Holds (λ x y is. subst (λ z. Holds (roll-Exp z)) is (of_level (tree y) (each y)))

  value_or_zero_fits : (d : ℕ) (v : Option Typed_value) → 1 ≤ d → IfSome v (FitsValue n m d) → Fits n m d (value_or_zero v)
  value_or_zero_fits d None le h = fits_num n m d (pos 0) le
  value_or_zero_fits d (Some v) le h = h

  deeper_operand : (c d : ℕ) (x : Operand) → c ≤ d → FitsOperand n m c x → IfSome (value_of x) (FitsValue n m d)
  deeper_operand c d x le h = weaker (FitsValue n m c) (FitsValue n m d) (value_of x) (λ v. deeper n m c d v.1 le) (value_fits n m c x h)

  -- a value in an expression that is at most d deep
  pub value_in_fits : (d : ℕ) (a : Exp) → 1 ≤ d → depth a ≤ d → Fits n m d (value_in s a)
  value_in_fits d a le shallow = value_or_zero_fits d (also (judged s a).is value_of) le
      (also_if (FitsOperand n m (depth a)) (FitsValue n m d) (judged s a).is value_of (operand_fits a) (λ x h. deeper_operand (depth a) d x shallow h))
