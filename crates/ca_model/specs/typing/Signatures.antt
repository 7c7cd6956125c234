-- Prototypes and definitions of functions by their types (C11 6.7.6.3).
use Rattle.std.specs.Prelude.{ℕ, zero, suc, Bool, true, false, not, ◌&&◌, ◌||◌, is_some, List, [], ◌∷◌, ◌++◌, map, length, Option, Some, None, slice_get}
use Rattle.std.specs.Str.{bytes_eq}
use Rattle.std.specs.List.{list_any}
use Rattle.ca_tree.specs.declared.tree.ResultType.{ResultType}
use Rattle.ca_tree.specs.declared.tree.ResultType.TheVariants as result
use Rattle.ca_tree.specs.declared.tree.ParameterType.{ParameterType}
use Rattle.ca_tree.specs.declared.tree.ParameterType.TheVariants as parameter
use Rattle.ca_tree.specs.declared.tree.Parameter.{Parameter}
use Rattle.ca_tree.specs.declared.tree.Function.{Function}
use Rattle.ca_tree.specs.Names.{is_library_word}
use Rattle.ca_model.specs.declared.types.TypeFault.{TypeFault}
use Rattle.ca_model.specs.declared.types.ObjectType.{ObjectType}
use Rattle.ca_model.specs.declared.types.Meaning.{Meaning}
use Rattle.ca_model.specs.declared.types.Meaning.TheVariants as means
use Rattle.ca_model.specs.declared.types.TypeKind.TheVariants as wrong
use Rattle.ca_model.specs.typing.Faults.{fault, unless}
use Rattle.ca_model.specs.typing.Types.{void, void_pointer}
use Rattle.ca_model.specs.typing.Scopes.{Signature, FunctionOf, Scope, Context, find}
use Rattle.ca_model.specs.typing.TypeNames.{written_type, type_faults, both_same}
use Rattle.ca_model.specs.typing.LibraryCalls.{is_void_pointer, only_void_pointer}
use Rattle.ca_model.specs.typing.Globals.{with_name}

abbrev pub result_type : Scope → ResultType → Option ObjectType
result_type s result.Void = Some void
result_type s result.Pointer = Some void_pointer
result_type s (result.Value t) = written_type s t.base t.stars

abbrev pub result_faults : Scope → ResultType → List TypeFault
result_faults s (result.Value t) = type_faults s t.base
result_faults s r = []

abbrev pub of_parameter : Scope → ParameterType → Option ObjectType
of_parameter s parameter.Pointer = Some void_pointer
of_parameter s (parameter.Value t) = written_type s t.base t.stars

abbrev pub parameter_type : Scope → Parameter → Option ObjectType
parameter_type s a = of_parameter s a.of

abbrev pub of_parameter_faults : Scope → ParameterType → List TypeFault
of_parameter_faults s parameter.Pointer = []
of_parameter_faults s (parameter.Value t) = type_faults s t.base

abbrev pub parameter_faults : Scope → List Parameter → List TypeFault
parameter_faults s [] = []
parameter_faults s (a ∷ more) = of_parameter_faults s a.of ++ parameter_faults s more

abbrev pub signature : Scope → Function → Signature
signature s f = record { result = result_type s f.result; parameters = map (parameter_type s) f.parameters }

-- `void *` is a parameter or result in `void *f(void *x)` alone
abbrev pub void_pointers_allowed : Signature → Bool
void_pointers_allowed g = not (is_void_pointer g.result || list_any is_void_pointer g.parameters) || (is_void_pointer g.result && only_void_pointer g.parameters)

abbrev pub all_same : List (Option ObjectType) → List (Option ObjectType) → Bool
all_same [] [] = true
all_same (t ∷ ts) (u ∷ us) = both_same t u && all_same ts us
all_same ts us = false

-- a definition and a prototype agree; a refused type agrees with any
abbrev pub agree : Signature → Signature → Bool
agree g h = both_same g.result h.result && all_same g.parameters h.parameters

abbrev pub all_agree : Signature → List Signature → Bool
all_agree g [] = true
all_agree g (h ∷ more) = agree g h && all_agree g more

abbrev pub agrees_with : Signature → Option Signature → Bool
agrees_with g None = true
agrees_with g (Some h) = agree g h

abbrev pub fits_others : Bool → Signature → Option FunctionOf → Bool
fits_others is_definition g None = true
fits_others true g (Some f) = all_agree g f.prototypes
fits_others false g (Some f) = agrees_with g f.definition

abbrev pub all_named : List Parameter → Bool
all_named [] = true
all_named (a ∷ more) = is_some a.name && all_named more

abbrev pub function_of : Context → Meaning → Option FunctionOf
function_of c (means.Function i) = slice_get c.functions i
function_of c m = None

abbrev pub function_meant : Context → Option Meaning → Option FunctionOf
function_meant c None = None
function_meant c (Some m) = function_of c m

-- a function that was declared before
abbrev pub function_named : Context → List ℕ → Option FunctionOf
function_named c n = function_meant c (find n c.scope.globals)

abbrev pub may_follow : Bool → Bool → Option FunctionOf → Bool
may_follow is_definition is_known None = not is_known
may_follow is_definition is_known (Some g) = not (is_definition && is_some g.definition)

-- no call of the library, no name of something else, and no second definition
abbrev pub is_new : Context → Function → Bool
is_new c f = not (is_library_word f.name.text) && may_follow (is_some f.body) (is_some (find f.name.text c.scope.globals)) (function_named c f.name.text)

abbrev pub is_defined : Context → List ℕ → Bool
is_defined c n = list_any (λ m. bytes_eq n m) c.defined

abbrev pub is_right : Context → Function → Signature → Bool
is_right c f g = void_pointers_allowed g && ((not (is_some f.body) || all_named f.parameters) && fits_others (is_some f.body) g (function_named c f.name.text))

abbrev pub function_faults : Context → Function → List TypeFault
function_faults c f =
    result_faults c.scope f.result ++ parameter_faults c.scope f.parameters
    ++ unless (is_new c f) (fault f.name.pos wrong.Twice)
    ++ unless (is_right c f (signature c.scope f)) (fault f.name.pos wrong.Mismatch)
    ++ unless (is_some f.body || is_defined c f.name.text) (fault f.name.pos wrong.Unknown)

-- the function by this declaration too
abbrev pub declared_too : Bool → Signature → FunctionOf → FunctionOf
declared_too true g f = record f { definition = Some g }
declared_too false g f = record f { prototypes = f.prototypes ++ g ∷ [] }

abbrev pub declared_first : Bool → Signature → FunctionOf
declared_first is_definition g = declared_too is_definition g (record { first = g; definition = None; prototypes = [] })

abbrev pub changed_at : ℕ → (FunctionOf → FunctionOf) → List FunctionOf → List FunctionOf
changed_at i f [] = []
changed_at zero f (x ∷ xs) = f x ∷ xs
changed_at (suc i) f (x ∷ xs) = x ∷ changed_at i f xs

abbrev pub with_declaration : Context → List ℕ → Bool → Signature → Option Meaning → Context
with_declaration c n is_definition g (Some (means.Function i)) = record c { functions = changed_at i (declared_too is_definition g) c.functions }
with_declaration c n is_definition g m = record c { scope = with_name c.scope n (means.Function (length c.functions)); functions = c.functions ++ declared_first is_definition g ∷ [] }

abbrev pub with_signature : Context → Function → Context
with_signature c f = with_declaration c f.name.text (is_some f.body) (signature c.scope f) (find f.name.text c.scope.globals)
