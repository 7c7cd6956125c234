-- A type that is written is there, where nothing is wrong in it.
use Rattle.std.proofs.Common.{◌≡◌, ℕ, List, [], Option, Some, None, true, refl, sym, subst}
use Rattle.std.specs.Option.{is_some}
use Rattle.ca_tree.specs.declared.tree.Base.{Base}
use Rattle.ca_tree.specs.declared.tree.Base.TheVariants as base
use Rattle.ca_tree.specs.declared.tree.ParameterType.{ParameterType}
use Rattle.ca_tree.specs.declared.tree.ParameterType.TheVariants as parameter
use Rattle.ca_model.specs.typing.Values.{also}
use Rattle.ca_model.specs.typing.Scopes.{StructOf, Scope, struct_numbered}
use Rattle.ca_model.specs.typing.TypeNames.{written_type, type_faults}
use Rattle.ca_model.specs.typing.Signatures.{of_parameter, of_parameter_faults}
use Rattle.ca_model.proofs.EmptyFaults.{there_if}

also_there : {A B : Type 0} (o : Option A) (f : A → B) → is_some o ≡ true → is_some (also o (λ x. Some (f x))) ≡ true
also_there None f h = absurd cc
also_there (Some x) f h = refl

-- a type in which nothing is wrong isn't refused
pub type_there : (s : Scope) (b : Base) (k : ℕ) → type_faults s b ≡ [] → is_some (written_type s b k) ≡ true
type_there s base.Int k none = refl
type_there s (base.Struct n) k none = also_there (struct_numbered 0 n.text s.structs) _ (there_if _ (struct_numbered 0 n.text s.structs) none)

-- where the structs are the same, a type is there, and a fault of it
abbrev over : Scope → List StructOf → Scope
over s xs = record s { structs = xs }

faults_over : (s : Scope) (xs : List StructOf) (b : Base) → type_faults (over s xs) b ≡ [] → s.structs ≡ xs → type_faults s b ≡ []
faults_over s xs base.Int none same = refl
faults_over s xs (base.Struct n) none same = subst (λ ys. type_faults (over s ys) (base.Struct n) ≡ []) (sym same) none

pub type_there_over : (s u : Scope) (b : Base) (k : ℕ) → s.structs ≡ u.structs → type_faults u b ≡ [] → is_some (written_type s b k) ≡ true
type_there_over s u base.Int k same none = refl
type_there_over s u (base.Struct n) k same none = type_there s (base.Struct n) k (faults_over s u.structs (base.Struct n) none same)

pub parameter_there : (s u : Scope) (a : ParameterType) → s.structs ≡ u.structs → of_parameter_faults u a ≡ [] → is_some (of_parameter s a) ≡ true
parameter_there s u parameter.Pointer same none = refl
parameter_there s u (parameter.Value v) same none = type_there_over s u v.base v.stars same none
