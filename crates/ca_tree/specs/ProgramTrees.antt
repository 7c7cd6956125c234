-- Declarations and programs by their trees alone: what a program within the limits is. `n` before a tree and `m` behind it are the counts before it and up to its end.
use Rattle.std.specs.Prelude.{◌≡◌, ◌≤◌, ℕ, ℤ, suc, ◌+◌, neg_ℤ, true, false, ◌||◌, List, [], ◌∷◌, All, length, Option, Some, None, IfSome}
use Rattle.ca_tree.specs.declared.text.Pos.{Pos}
use Rattle.ca_tree.specs.declared.tree.Base.{Base}
use Rattle.ca_tree.specs.declared.tree.«Type».{«Type» as CType}
use Rattle.ca_tree.specs.declared.tree.Stmt.{Stmt}
use Rattle.ca_tree.specs.declared.tree.Declarator.{Declarator}
use Rattle.ca_tree.specs.declared.tree.Fields.{Fields as FieldsOf}
use Rattle.ca_tree.specs.declared.tree.Struct.{Struct}
use Rattle.ca_tree.specs.declared.tree.GlobalForm.{GlobalForm}
use Rattle.ca_tree.specs.declared.tree.GlobalForm.TheVariants as form
use Rattle.ca_tree.specs.declared.tree.MutexDeclarator.{MutexDeclarator}
use Rattle.ca_tree.specs.declared.tree.ThreadDeclarator.{ThreadDeclarator}
use Rattle.ca_tree.specs.declared.tree.GlobalDeclarator.{GlobalDeclarator}
use Rattle.ca_tree.specs.declared.tree.Globals.{Globals as GlobalsOf}
use Rattle.ca_tree.specs.declared.tree.Globals.TheVariants as globals
use Rattle.ca_tree.specs.declared.tree.ResultType.{ResultType}
use Rattle.ca_tree.specs.declared.tree.ResultType.TheVariants as result
use Rattle.ca_tree.specs.declared.tree.ParameterType.{ParameterType}
use Rattle.ca_tree.specs.declared.tree.ParameterType.TheVariants as parameter
use Rattle.ca_tree.specs.declared.tree.Parameter.{Parameter}
use Rattle.ca_tree.specs.declared.tree.Body.{Body}
use Rattle.ca_tree.specs.declared.tree.Function.{Function}
use Rattle.ca_tree.specs.declared.tree.Top.{Top}
use Rattle.ca_tree.specs.declared.tree.Top.TheVariants as top
use Rattle.ca_tree.specs.declared.tree.Program.{Program}
use Rattle.ca_tree.specs.declared.tree.Constant.{Constant}
use Rattle.ca_tree.specs.declared.tree.Constant.TheVariants as constant
use Rattle.ca_tree.specs.declared.counted.Counted.TheVariants as counted
use Rattle.ca_tree.specs.Counts.{most, Totals, nothing_yet, one_more_global, one_more_mutex, one_more_struct, one_more_function}
use Rattle.ca_tree.specs.TreeWords.{Words, any_words, text_words}
use Rattle.ca_tree.specs.ExpressionTrees.{IsName}
use Rattle.ca_tree.specs.PhraseTrees.{has_star, IsBase, IsType}
use Rattle.ca_tree.specs.StatementTrees.{item, RoomForItem, IsTree, Statements}

-- at least one, and each of a kind
abbrev pub OneOrMore : {X : Type 0} → (X → Type 0) → List X → Type 0
OneOrMore P xs = (1 ≤ length xs) × All P xs

pub record IsField (words : Words) (b : Base) (d : Declarator) : Type 0 where
  pub has_a_star : has_star b d.stars ≡ true
  pub is_name : IsName words d.name

pub record AreFields (words : Words) (f : FieldsOf) : Type 0 where
  pub of : IsBase words f.base
  pub each : OneOrMore (IsField words f.base) f.declarators

abbrev pub field_count : List FieldsOf → ℕ
field_count [] = 0
field_count (f ∷ more) = length f.declarators + field_count more

pub record IsStruct (words : Words) (a : Struct) : Type 0 where
  pub is_name : IsName words a.name
  pub each : OneOrMore (AreFields words) a.fields
  pub few : field_count a.fields ≤ most counted.Fields

-- things that are each counted in turn, where there is room for it
pub data Each {X : Type 0} (Is : X → Type 0) (Room : Totals → Type 0) (and_one : Totals → Totals) : Totals → List X → Totals → Type 0 where
  none : {n : Totals} → Each Is Room and_one n [] n
  one : {n m : Totals} {x : X} {more : List X} → Room n → Is x → Each Is Room and_one (and_one n) more m → Each Is Room and_one n (x ∷ more) m

abbrev pub RoomForGlobal : Totals → Type 0
RoomForGlobal n = suc n.globals ≤ most counted.Globals

abbrev pub RoomForMutex : Totals → Type 0
RoomForMutex n = suc n.mutexes ≤ most counted.Mutexes

abbrev pub IsLength : Words → ℤ → Type 0
IsLength words i = words.is_number i ≡ true

-- a number, with a `-` or without one
abbrev pub IsConstant : Words → Constant → Type 0
IsConstant words (constant.Number i) = (words.is_number i || words.is_number (neg_ℤ i)) ≡ true
IsConstant words constant.Null = Unit {0}

abbrev pub IsForm : Words → GlobalForm → Type 0
IsForm words (form.Array i) = IsLength words i
IsForm words (form.Constant c) = IsConstant words c
IsForm words f = Unit {0}

abbrev pub AreMutexes : Words → Totals → List MutexDeclarator → Totals → Type 0
AreMutexes words = Each (λ d. IsName words d.name) RoomForMutex one_more_mutex

abbrev pub AreThreads : Words → Totals → List ThreadDeclarator → Totals → Type 0
AreThreads words = Each (λ d. IsName words d.name × IfSome d.length (IsLength words)) RoomForGlobal one_more_global

abbrev pub AreVariables : Words → Totals → List GlobalDeclarator → Totals → Type 0
AreVariables words = Each (λ d. IsName words d.name × IsForm words d.form) RoomForGlobal one_more_global

abbrev pub AreGlobals : Words → Totals → GlobalsOf → Totals → Type 0
AreGlobals words n (globals.Mutexes ds) m = (1 ≤ length ds) × AreMutexes words n ds m
AreGlobals words n (globals.Threads ds) m = (1 ≤ length ds) × AreThreads words n ds m
AreGlobals words n (globals.Variables b ds) m = IsBase words b × (1 ≤ length ds) × AreVariables words n ds m

-- a type that has a star if it is a struct
pub record IsValueType (words : Words) (t : CType) : Type 0 where
  pub is_type : IsType words t
  pub has_a_star : has_star t.base t.stars ≡ true

abbrev pub IsResult : Words → ResultType → Type 0
IsResult words (result.Value t) = IsValueType words t
IsResult words r = Unit {0}

abbrev pub IsParameterType : Words → ParameterType → Type 0
IsParameterType words (parameter.Value t) = IsValueType words t
IsParameterType words t = Unit {0}

pub record IsParameter (words : Words) (a : Parameter) : Type 0 where
  pub is_type : IsParameterType words a.of
  pub named : IfSome a.name (IsName words)

-- a function is counted where it has a body, whose closing brace is an item
pub data IsBody (words : Words) (n : Totals) : Option Body → Totals → Type 0 where
  no_body : IsBody words n None n
  a_body : {m : ℕ} {p : Pos} {all : List Stmt} → suc n.functions ≤ most counted.Functions → IsTree words Statements false 1 n.items all m → RoomForItem m
      → IsBody words n (Some (record { statements = all; close = item (suc m) p })) (one_more_function n (suc m))

pub record IsFunction (words : Words) (n : Totals) (f : Function) (m : Totals) : Type 0 where
  pub is_result : IsResult words f.result
  pub is_name : IsName words f.name
  pub few : length f.parameters ≤ most counted.Parameters
  pub each : All (IsParameter words) f.parameters
  pub is_body : IsBody words n f.body m

pub data IsTop (words : Words) (n : Totals) : Top → Totals → Type 0 where
  a_struct : {a : Struct} → suc n.structs ≤ most counted.Structs → IsStruct words a → IsTop words n (top.Struct a) (one_more_struct n)
  some_globals : {a : GlobalsOf} {m : Totals} → AreGlobals words n a m → IsTop words n (top.Globals a) m
  a_function : {f : Function} {m : Totals} → IsFunction words n f m → IsTop words n (top.Function f) m

pub data AreTops (words : Words) : Totals → List Top → Totals → Type 0 where
  no_top : {n : Totals} → AreTops words n [] n
  one_top : {n k m : Totals} {a : Top} {more : List Top} → IsTop words n a k → AreTops words k more m → AreTops words n (a ∷ more) m

abbrev pub IsProgramOf : Words → Program → Type 0
IsProgramOf words a = (m : Totals) × AreTops words nothing_yet a.tops m

-- a program of the grammar, within the limits
abbrev pub IsProgramTree : Program → Type 0
IsProgramTree = IsProgramOf any_words

-- such a program of a text
abbrev pub IsWrittenProgram : Program → Type 0
IsWrittenProgram = IsProgramOf text_words
