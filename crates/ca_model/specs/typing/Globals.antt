-- Declarations of globals, with their sizes and first values (C11 6.7.6.2, 6.7.9).
use Rattle.std.specs.Prelude.{ℕ, ◌+◌, ◌*◌, ℤ, pos, negsuc, Bool, true, not, ◌&&◌, ◌||◌, nat_lt, nat_le, is_some, List, [], ◌∷◌, ◌++◌, length, Option, Some, None, if◌then◌else◌}
use Rattle.std.specs.Ordering.{int_eq}
use Rattle.ca_tree.specs.declared.numbers.GlobalId.{GlobalId}
use Rattle.ca_tree.specs.declared.tree.Name.{Name}
use Rattle.ca_tree.specs.declared.tree.Base.{Base}
use Rattle.ca_tree.specs.declared.tree.Constant.{Constant}
use Rattle.ca_tree.specs.declared.tree.Constant.TheVariants as constant
use Rattle.ca_tree.specs.declared.tree.GlobalForm.{GlobalForm}
use Rattle.ca_tree.specs.declared.tree.GlobalForm.TheVariants as form
use Rattle.ca_tree.specs.declared.tree.MutexDeclarator.{MutexDeclarator}
use Rattle.ca_tree.specs.declared.tree.ThreadDeclarator.{ThreadDeclarator}
use Rattle.ca_tree.specs.declared.tree.GlobalDeclarator.{GlobalDeclarator}
use Rattle.ca_tree.specs.declared.tree.Globals.{Globals as GlobalsOf}
use Rattle.ca_tree.specs.declared.tree.Globals.TheVariants as globals
use Rattle.ca_tree.specs.Names.{is_library_word}
use Rattle.ca_model.specs.declared.values.Value.{Value}
use Rattle.ca_model.specs.declared.values.Value.TheVariants as value
use Rattle.ca_model.specs.declared.tree.GlobalStart.{GlobalStart}
use Rattle.ca_model.specs.declared.types.TypeFault.{TypeFault}
use Rattle.ca_model.specs.declared.types.ObjectType.{ObjectType}
use Rattle.ca_model.specs.declared.types.Meaning.{Meaning}
use Rattle.ca_model.specs.declared.types.Meaning.TheVariants as means
use Rattle.ca_model.specs.declared.types.TypeKind.TheVariants as wrong
use Rattle.ca_model.specs.typing.Faults.{fault, unless}
use Rattle.ca_model.specs.typing.Types.{int, thread, same_object}
use Rattle.ca_model.specs.typing.Scopes.{Scope, find}
use Rattle.ca_model.specs.typing.TypeNames.{written_type, type_faults, cells_of}
use Rattle.ca_model.specs.typing.Known.{Known, with_faults, in_scope, with_each}

-- a name outside of functions; a second declaration changes nothing
abbrev pub with_name : Scope → List ℕ → Meaning → Scope
with_name s n m = if is_some (find n s.globals) then s else record s { globals = s.globals ++ (n, m) ∷ [] }

abbrev pub name_faults : Scope → Name → List TypeFault
name_faults s n = unless (not (is_library_word n.text || is_some (find n.text s.globals))) (fault n.pos wrong.Twice)

abbrev pub with_mutex : Known → MutexDeclarator → Known
with_mutex k d =
    with_faults (in_scope (record k { mutexes = k.mutexes + 1 }) (with_name k.context.scope d.name.text (means.Mutex (record { 0 = k.mutexes })))) (name_faults k.context.scope d.name)

abbrev pub most_cells : ℕ
most_cells = 65536

-- a number of cells of its own, and within the bound for all globals
abbrev pub cells_allowed : ℕ → ℕ → Bool
cells_allowed before n = nat_lt 0 n && (nat_le (before + n) most_cells || nat_lt most_cells before)

abbrev pub natural : ℤ → ℕ
natural (pos n) = n
natural (negsuc n) = 0

-- the length of an array; a global that is none has one element
abbrev pub element_count : Option ℤ → ℕ
element_count None = 1
element_count (Some n) = natural n

abbrev pub global_means : GlobalId → Option ℤ → Option ObjectType → Meaning
global_means g None t = means.Global g t
global_means g (Some n) t = means.Array g t

-- how many cells a global has; where these are more than there may be, 0 stands for them
abbrev pub start_of : ℕ → Value → GlobalStart
start_of n v = record { cells = if nat_le n most_cells then n else 0; first = v }

-- a global of a type, of so many elements, whose first cell opens with a value
abbrev pub with_global : Known → Name → Option ObjectType → Option ℤ → Value → List TypeFault → Known
with_global k n t len v fs =
    with_faults
    (in_scope
    (record k { starts = k.starts ++ start_of (element_count len * cells_of k.context.scope t) v ∷ []; cells = k.cells + element_count len * cells_of k.context.scope t })
    (with_name k.context.scope n.text (global_means (record { 0 = length k.starts }) len t)))
    (name_faults k.context.scope n ++ unless (cells_allowed k.cells (element_count len * cells_of k.context.scope t)) (fault n.pos wrong.TooManyCells) ++ fs)

abbrev pub zero_value : Value
zero_value = value.Num (pos 0)

abbrev pub length_of : GlobalForm → Option ℤ
length_of (form.Array n) = Some n
length_of f = None

-- a pointer opens as null
abbrev pub first_value : GlobalForm → Value
first_value (form.Constant (constant.Number n)) = value.Num n
first_value f = zero_value

-- an `int` takes a number, and a pointer `NULL` or 0
abbrev pub takes_constant : ObjectType → Constant → Bool
takes_constant t (constant.Number n) = same_object t int || (nat_lt 0 t.stars && int_eq n (pos 0))
takes_constant t constant.Null = nat_lt 0 t.stars

abbrev pub constant_is_right : Option ObjectType → GlobalForm → Bool
constant_is_right (Some t) (form.Constant c) = takes_constant t c
constant_is_right t f = true

abbrev pub with_thread : Known → ThreadDeclarator → Known
with_thread k d = with_global k d.name (Some thread) d.length zero_value []

abbrev pub with_variable : Base → Known → GlobalDeclarator → Known
with_variable b k d =
    with_global k d.name (written_type k.context.scope b d.stars) (length_of d.form) (first_value d.form)
    (unless (constant_is_right (written_type k.context.scope b d.stars) d.form) (fault d.name.pos wrong.Mismatch))

abbrev pub with_globals : Known → GlobalsOf → Known
with_globals k (globals.Mutexes ds) = with_each with_mutex k ds
with_globals k (globals.Threads ds) = with_each with_thread k ds
with_globals k (globals.Variables b ds) = with_faults (with_each (with_variable b) k ds) (type_faults k.context.scope b)
