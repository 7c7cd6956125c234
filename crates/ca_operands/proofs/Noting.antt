-- Faults that are noted one after another.
use Rattle.std.proofs.Common.{◌≡◌, Bool, true, false, ◌&&◌, ◌||◌, List, [], ◌∷◌, ◌++◌, Option, Some, refl, ap, sym, ◌∙◌}
use Rattle.std.specs.Prelude.{None, is_some, not, if◌then◌else◌}
use Rattle.ca_tree.specs.declared.text.Pos.{Pos}
use Rattle.ca_tree.specs.declared.tree.Name.{Name}
use Rattle.ca_tree.specs.declared.tree.UnaryOp.{UnaryOp}
use Rattle.ca_tree.specs.declared.tree.BinaryOp.{BinaryOp}
use Rattle.ca_tree.specs.declared.tree.Exp.{Exp}
use Rattle.ca_tree.specs.declared.tree.Exp.TheVariants as e
use Rattle.ca_tree.specs.ExpressionTrees.{place_of}
use Rattle.ca_model.specs.declared.types.Operand.{Operand}
use Rattle.ca_model.specs.declared.types.TypeKind.TheVariants as wrong
use Rattle.ca_model.specs.declared.types.TypeFault.{TypeFault}
use Rattle.ca_model.specs.typing.Faults.{fault, if_none}
use Rattle.ca_model.specs.typing.Operators.{binary}
use Rattle.ca_model.specs.typing.Places.{indexed, struct_place, struct_behind}
use Rattle.ca_model.specs.typing.Values.{also, value_of}
use Rattle.ca_model.specs.declared.types.Wanted.{Wanted}
use Rattle.ca_model.specs.typing.Faults.{unless}
use Rattle.ca_model.specs.typing.Uses.{value_is_wanted, faults_in}
use Rattle.ca_model.specs.typing.Scopes.{Scope, field_count}
use Rattle.ca_model.specs.typing.Expressions.{Judged, judged, no_place, both, unary_faults, not_chosen}
use Rattle.ca_model.specs.typing.Faults.{given}
use Rattle.ca_model.proofs.JudgedExpressions.{placed, judged_unary, judged_binary, judged_index, judged_field, judged_arrow}
use Rattle.ca_operands.specs.Noted.{noted, sooner}

pub noted_append : (f : Option TypeFault) (xs ys : List TypeFault) → noted f (xs ++ ys) ≡ noted (noted f xs) ys
noted_append f [] ys = refl
noted_append f (x ∷ xs) ys = noted_append (Some (sooner f x)) xs ys

-- the faults of parts, and then others
pub noted_more : (f g : Option TypeFault) (xs ys zs : List TypeFault) → g ≡ noted f xs → zs ≡ xs ++ ys → noted g ys ≡ noted f zs
noted_more f g xs ys zs parts all = ap (λ g. noted g ys) parts ∙ sym (noted_append f xs ys) ∙ ap (noted f) (sym all)

-- of two, three and four parts
pub noted_two : (f g h : Option TypeFault) (xs ys : List TypeFault) → g ≡ noted f xs → h ≡ noted g ys → h ≡ noted f (xs ++ ys)
noted_two f g h xs ys one two = two ∙ noted_more f g xs ys (xs ++ ys) one refl

pub noted_three : (f g h i : Option TypeFault) (xs ys zs : List TypeFault) → g ≡ noted f xs → h ≡ noted g ys → i ≡ noted h zs → i ≡ noted f (xs ++ ys ++ zs)
noted_three f g h i xs ys zs one two three = noted_two f h i (xs ++ ys) zs (noted_two f g h xs ys one two) three

pub noted_four : (f g h i j : Option TypeFault) (xs ys zs ws : List TypeFault) → g ≡ noted f xs → h ≡ noted g ys → i ≡ noted h zs → j ≡ noted i ws → j ≡ noted f (xs ++ ys ++ zs ++ ws)
noted_four f g h i j xs ys zs ws one two three four = noted_two f i j (xs ++ ys ++ zs) ws (noted_three f g h i xs ys zs one two three) four

-- what is no place, by a test
no_place_by : {A : Type 0} (b : Bool) (x : Option Operand) (f : Operand → Option A) (p : TypeFault)
    → (if b then given x (λ y. if_none p (f y)) else p ∷ []) ≡ unless (b && (not (is_some x) || is_some (also x f))) p
no_place_by false x f p = refl
no_place_by true None f p = refl
no_place_by true (Some y) f p = by (f y)
  where
    by : {A : Type 0} (r : Option A) → if_none p r ≡ unless (is_some r) p
    by None = refl
    by (Some a) = refl

pub no_place_is : {A : Type 0} (j : Judged) (f : Operand → Option A) → no_place j f ≡ unless (j.may_be_place && (not (is_some j.is) || is_some (also j.is f))) (fault j.pos wrong.NotLvalue)
no_place_is j f = no_place_by j.may_be_place j.is f (fault j.pos wrong.NotLvalue)

-- g is the first fault before an operand or a target is tested to be a place, and h behind the test
pub of_place : {A : Type 0} (s : Scope) (g h : Option TypeFault) (x : Exp) (rule : Operand → Option A) (y : Option Operand) (z : Option A) (is_typed is_found : Bool)
    → y ≡ (judged s x).is → is_typed ≡ is_some y → z ≡ also y rule → is_found ≡ is_some z
    → h ≡ noted g (unless ((judged s x).may_be_place && (not is_typed || is_found)) (fault (judged s x).pos wrong.NotLvalue)) → h ≡ noted g (no_place (judged s x) rule)
of_place s g h x rule y z is_typed is_found is one gives two noted_is =
    let j = judged s x in
    noted_is ∙ ap (λ (b : Bool). noted g (unless (j.may_be_place && (not b || is_found)) (fault j.pos wrong.NotLvalue))) (one ∙ ap (λ (y : Option Operand). is_some y) is)
    ∙ ap (λ (b : Bool). noted g (unless (j.may_be_place && (not (is_some j.is) || b)) (fault j.pos wrong.NotLvalue))) (two ∙ ap (λ z. is_some z) (gives ∙ ap (λ (y : Option Operand). also y rule) is))
    ∙ ap (noted g) (sym (no_place_is j rule))

-- f is the first fault before an expression, and g behind its parts
module _ (s : Scope) (f g : Option TypeFault) where
  pub of_unary : (x a b : Exp) (p : Pos) (o : UnaryOp) → x ≡ e.Unary p o a → b ≡ a → g ≡ noted f (judged s b).faults → noted g (unary_faults o p (judged s b)) ≡ noted f (judged s x).faults
  of_unary x a b p o is same faults =
      noted_more f g (judged s b).faults (unary_faults o p (judged s b)) (judged s x).faults faults
      (ap (λ (j : Judged). j.faults) (ap (judged s) (is ∙ ap (e.Unary p o) (sym same)) ∙ judged_unary s p o b))

  pub of_field : (x a b : Exp) (p : Pos) (n : Name) (y : Option Operand) → x ≡ e.Field p a n → b ≡ a → g ≡ noted f (judged s b).faults → y ≡ (judged s b).is
      → noted g (given y (λ y. not_chosen s p n (struct_place y))) ≡ noted f (judged s x).faults
  of_field x a b p n y is same faults typed =
      ap (λ y. noted g (given y (λ y. not_chosen s p n (struct_place y)))) typed
      ∙ noted_more f g (judged s b).faults (given (judged s b).is (λ y. not_chosen s p n (struct_place y))) (judged s x).faults faults
      (ap (λ (j : Judged). j.faults) (ap (judged s) (is ∙ ap (λ b. e.Field p b n) (sym same)) ∙ judged_field s p b n))

  pub of_arrow : (x a b : Exp) (p : Pos) (n : Name) (y : Option Operand) → x ≡ e.Arrow p a n → b ≡ a → g ≡ noted f (judged s b).faults → y ≡ (judged s b).is
      → noted g (given y (λ y. not_chosen s p n (struct_behind y))) ≡ noted f (judged s x).faults
  of_arrow x a b p n y is same faults typed =
      ap (λ y. noted g (given y (λ y. not_chosen s p n (struct_behind y)))) typed
      ∙ noted_more f g (judged s b).faults (given (judged s b).is (λ y. not_chosen s p n (struct_behind y))) (judged s x).faults faults
      (ap (λ (j : Judged). j.faults) (ap (judged s) (is ∙ ap (λ b. e.Arrow p b n) (sym same)) ∙ judged_arrow s p b n))

  -- of two parts, m behind the first
  of_two : (a b : Exp) (m : Option TypeFault) (y z : Option Operand) (wrong : Operand × Operand → List TypeFault) (fs : List TypeFault)
      → m ≡ noted f (judged s a).faults → g ≡ noted m (judged s b).faults → y ≡ (judged s a).is → z ≡ (judged s b).is
      → fs ≡ ((judged s a).faults ++ (judged s b).faults) ++ given (both (judged s a).is (judged s b).is) wrong → noted g (given (both y z) wrong) ≡ noted f fs
  of_two a b m y z wrong fs one two first second all =
      ap (λ y. noted g (given (both y z) wrong)) first ∙ ap (λ z. noted g (given (both (judged s a).is z) wrong)) second
      ∙ noted_more f g ((judged s a).faults ++ (judged s b).faults) (given (both (judged s a).is (judged s b).is) wrong) fs
      (two ∙ noted_more f m (judged s a).faults (judged s b).faults ((judged s a).faults ++ (judged s b).faults) one refl) all

  pub of_binary : (x a b c d : Exp) (p : Pos) (o : BinaryOp) (m : Option TypeFault) (y z : Option Operand) (w : Option (Operand × Operand)) → x ≡ e.Binary p o c d → a ≡ c → b ≡ d
      → m ≡ noted f (judged s a).faults → g ≡ noted m (judged s b).faults → y ≡ (judged s a).is → z ≡ (judged s b).is → w ≡ both y z
      → noted g (given w (λ y. if_none (fault p wrong.Mismatch) (binary (field_count s) o y.0 y.1))) ≡ noted f (judged s x).faults
  of_binary x a b c d p o m y z w is left right one two first second pair =
      ap (λ w. noted g (given w (λ y. if_none (fault p wrong.Mismatch) (binary (field_count s) o y.0 y.1)))) pair
      ∙ of_two a b m y z (λ y. if_none (fault p wrong.Mismatch) (binary (field_count s) o y.0 y.1)) (judged s x).faults one two first second
      (ap (λ (j : Judged). j.faults) (ap (judged s) (is ∙ ap (λ c. e.Binary p o c d) (sym left) ∙ ap (e.Binary p o a) (sym right)) ∙ judged_binary s p o a b))

  pub of_index : (x a b c d : Exp) (p : Pos) (m : Option TypeFault) (y z : Option Operand) (w : Option (Operand × Operand)) → x ≡ e.Index p c d → a ≡ c → b ≡ d
      → m ≡ noted f (judged s a).faults → g ≡ noted m (judged s b).faults → y ≡ (judged s a).is → z ≡ (judged s b).is → w ≡ both y z
      → noted g (given w (λ y. if_none (fault p wrong.Mismatch) (indexed (field_count s) y.0 y.1))) ≡ noted f (judged s x).faults
  of_index x a b c d p m y z w is left right one two first second pair =
      ap (λ w. noted g (given w (λ y. if_none (fault p wrong.Mismatch) (indexed (field_count s) y.0 y.1)))) pair
      ∙ of_two a b m y z (λ y. if_none (fault p wrong.Mismatch) (indexed (field_count s) y.0 y.1)) (judged s x).faults one two first second
      (ap (λ (j : Judged). j.faults) (ap (judged s) (is ∙ ap (λ c. e.Index p c d) (sym left) ∙ ap (e.Index p a) (sym right)) ∙ judged_index s p a b))

  -- an expression that goes somewhere
  pub of_value : (x : Exp) (w : Wanted) (y : Option Operand) (p : Pos) → g ≡ noted f (judged s x).faults → y ≡ (judged s x).is → p ≡ place_of x
      → noted g (given y (λ y. unless (value_is_wanted w (value_of y)) (fault p wrong.Mismatch))) ≡ noted f (faults_in s w x)
  of_value x w y p faults typed place =
      ap (λ y. noted g (given y (λ y. unless (value_is_wanted w (value_of y)) (fault p wrong.Mismatch)))) typed
      ∙ ap (λ p. noted g (given (judged s x).is (λ y. unless (value_is_wanted w (value_of y)) (fault p wrong.Mismatch)))) (place ∙ sym (placed s x))
      ∙ noted_more f g (judged s x).faults (given (judged s x).is (λ y. unless (value_is_wanted w (value_of y)) (fault (judged s x).pos wrong.Mismatch))) (faults_in s w x) faults refl
