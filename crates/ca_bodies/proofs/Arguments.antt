-- Values that are judged one after another.
use Rattle.std.proofs.Common.{◌≡◌, ℕ, zero, suc, ◌+◌, ◌<◌, List, [], ◌∷◌, ◌++◌, drop, length, get_or, Option, Some, refl, ap, sym, ◌∙◌, append_assoc, append-nil, drop-cons, add-one}
use Rattle.ca_tree.specs.declared.tree.Exp.{Exp}
use Rattle.ca_model.specs.declared.tree.Exp.{Exp as TypedExp}
use Rattle.ca_model.specs.declared.types.ObjectType.{ObjectType}
use Rattle.ca_model.specs.declared.types.TypeFault.{TypeFault}
use Rattle.ca_model.specs.declared.types.Wanted.{Wanted}
use Rattle.ca_model.specs.declared.types.Wanted.TheVariants.{OfType}
use Rattle.ca_model.specs.typing.Scopes.{Scope}
use Rattle.ca_model.specs.typing.Uses.{value_in, values_in, faults_in, argument_faults, each_faults}
use Rattle.ca_operands.specs.Noted.{noted}
use Rattle.ca_operands.proofs.Noting.{noted_append}
use Rattle.ca_bodies.specs.Arguments.{first_type}

-- what is left from number i on, with the values and the faults so far, is the whole
pub record SoFar (s : Scope) (xs : List Exp) (faults : ℕ → List TypeFault) (f : Option TypeFault) (i : ℕ) (vs : List TypedExp) (g : Option TypeFault) : Type 0 where
  pub values : vs ++ values_in s (drop i xs) ≡ values_in s xs
  pub noted_all : noted g (faults i) ≡ noted f (faults 0)

pub at_first : (s : Scope) (xs : List Exp) (faults : ℕ → List TypeFault) (f : Option TypeFault) → SoFar s xs faults f 0 [] f
at_first s xs faults f = record { values = refl; noted_all = refl }

from_next : (xs : List Exp) (i : ℕ) (x : Exp) → i < length xs → x ≡ get_or xs i x → drop i xs ≡ x ∷ drop (i + 1) xs
from_next xs i x lt is = drop-cons xs i x lt ∙ ap (λ (y : Exp). y ∷ drop (suc i) xs) (sym is) ∙ ap (λ (k : ℕ). x ∷ drop k xs) (sym (add-one i))

pub at_next : (s : Scope) (xs : List Exp) (faults : ℕ → List TypeFault) (f : Option TypeFault) (i : ℕ) (vs ws : List TypedExp) (g h : Option TypeFault) (w : Wanted) (x : Exp) (v : TypedExp)
    → i < length xs → x ≡ get_or xs i x → SoFar s xs faults f i vs g → v ≡ value_in s x → ws ≡ vs ++ v ∷ [] → h ≡ noted g (faults_in s w x) → faults i ≡ faults_in s w x ++ faults (i + 1)
    → SoFar s xs faults f (i + 1) ws h
at_next s xs faults f i vs ws g h w x v lt is so value pushed noted_is first = record {
  values = ap (λ (ws : List TypedExp). ws ++ values_in s (drop (i + 1) xs)) (pushed ∙ ap (λ (v : TypedExp). vs ++ v ∷ []) value)
      ∙ append_assoc vs (value_in s x ∷ []) (values_in s (drop (i + 1) xs))
      ∙ ap (λ (ys : List Exp). vs ++ values_in s ys) (sym (from_next xs i x lt is)) ∙ so.values;
  noted_all = ap (λ (h : Option TypeFault). noted h (faults (i + 1))) noted_is ∙ sym (noted_append g (faults_in s w x) (faults (i + 1))) ∙ ap (noted g) (sym first) ∙ so.noted_all;
}

pub each_first : (s : Scope) (t : ObjectType) (xs : List Exp) (i : ℕ) (x : Exp) → i < length xs → x ≡ get_or xs i x
    → each_faults s t (drop i xs) ≡ faults_in s (OfType (Some t)) x ++ each_faults s t (drop (i + 1) xs)
each_first s t xs i x lt is = ap (each_faults s t) (from_next xs i x lt is)

-- behind the last parameter there is none
drop_next : (ps : List (Option ObjectType)) (i : ℕ) (xs : List Exp) (s : Scope) (x : Exp)
    → argument_faults s (drop i ps) (x ∷ xs) ≡ faults_in s (OfType (first_type (drop i ps))) x ++ argument_faults s (drop (suc i) ps) xs
drop_next [] zero xs s x = refl
drop_next [] (suc i) xs s x = refl
drop_next (p ∷ ps) zero xs s x = refl
drop_next (p ∷ ps) (suc i) xs s x = drop_next ps i xs s x

pub argument_first : (s : Scope) (ps : List (Option ObjectType)) (xs : List Exp) (i : ℕ) (x : Exp) → i < length xs → x ≡ get_or xs i x
    → argument_faults s (drop i ps) (drop i xs) ≡ faults_in s (OfType (first_type (drop i ps))) x ++ argument_faults s (drop (i + 1) ps) (drop (i + 1) xs)
argument_first s ps xs i x lt is =
    ap (argument_faults s (drop i ps)) (from_next xs i x lt is) ∙ drop_next ps i (drop (i + 1) xs) s x
    ∙ ap (λ (k : ℕ). faults_in s (OfType (first_type (drop i ps))) x ++ argument_faults s (drop k ps) (drop (i + 1) xs)) (sym (add-one i))

-- behind the last value
pub all_values : (s : Scope) (xs : List Exp) (faults : ℕ → List TypeFault) (f : Option TypeFault) (i : ℕ) (vs : List TypedExp) (g : Option TypeFault)
    → SoFar s xs faults f i vs g → drop i xs ≡ [] → vs ≡ values_in s xs
all_values s xs faults f i vs g so none = sym (append-nil vs) ∙ ap (λ (ys : List Exp). vs ++ values_in s ys) (sym none) ∙ so.values
