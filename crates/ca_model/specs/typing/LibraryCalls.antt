-- Calls of the library (C11 7; POSIX `pthread_create`, `pthread_join`, `pthread_mutex_lock`).
use Rattle.std.specs.Prelude.{Bool, true, false, ◌&&◌, ◌==◌, List, [], ◌∷◌, ◌++◌, length, Option, Some, None, if◌then◌else◌}
use Rattle.ca_tree.specs.declared.text.Pos.{Pos}
use Rattle.ca_tree.specs.declared.numbers.VarId.{VarId}
use Rattle.ca_tree.specs.declared.tree.Name.{Name}
use Rattle.ca_tree.specs.declared.tree.Exp.{Exp}
use Rattle.ca_tree.specs.declared.numbers.MutexId.{MutexId}
use Rattle.ca_tree.specs.declared.tree.Library.{Library}
use Rattle.ca_tree.specs.declared.tree.Library.TheVariants as library
use Rattle.ca_model.specs.declared.tree.Act.{Act}
use Rattle.ca_model.specs.declared.tree.Act.TheVariants as act
use Rattle.ca_model.specs.declared.types.TypeFault.{TypeFault}
use Rattle.ca_model.specs.declared.types.ObjectType.{ObjectType}
use Rattle.ca_model.specs.declared.types.Meaning.{Meaning}
use Rattle.ca_model.specs.declared.types.Meaning.TheVariants as means
use Rattle.ca_model.specs.declared.types.TypeKind.TheVariants as wrong
use Rattle.ca_model.specs.declared.types.Wanted.TheVariants.{OfType, Scalar}
use Rattle.ca_model.specs.typing.Faults.{fault, if_none, unless, given}
use Rattle.ca_model.specs.typing.Types.{int, thread, void_pointer, same_object}
use Rattle.ca_model.specs.typing.Scopes.{Signature, Scope, Context, meaning, function_id}
use Rattle.ca_model.specs.typing.Uses.{value_in, faults_in, values_in, each_faults}
use Rattle.ca_model.specs.typing.Targets.{first_local}
use Rattle.ca_model.specs.typing.Calls.{signature_of}
use Rattle.ca_model.specs.typing.Formats.{directives, is_format}

abbrev pub mutex_of : Option Meaning → Option MutexId
mutex_of (Some (means.Mutex m)) = Some m
mutex_of m = None

abbrev pub or_first : Option MutexId → MutexId
or_first None = record { 0 = 0 }
or_first (Some m) = m

abbrev pub mutex : Scope → Name → MutexId
mutex s n = or_first (mutex_of (meaning s n.text))

abbrev pub mutex_faults : Scope → Name → List TypeFault
mutex_faults s n = if_none (fault n.pos wrong.Unknown) (meaning s n.text) ++ given (meaning s n.text) (λ m. if_none (fault n.pos wrong.Mismatch) (mutex_of (Some m)))

abbrev pub is_thread : Option ObjectType → Bool
is_thread None = true
is_thread (Some t) = same_object t thread

-- a local that takes the number of a thread
abbrev pub thread_local : Option Meaning → Option VarId
thread_local (Some (means.Local x t)) = if is_thread t then Some x else None
thread_local m = None

abbrev pub var_or_first : Option VarId → VarId
var_or_first None = first_local
var_or_first (Some x) = x

abbrev pub is_void_pointer : Option ObjectType → Bool
is_void_pointer None = false
is_void_pointer (Some t) = same_object t void_pointer

abbrev pub only_void_pointer : List (Option ObjectType) → Bool
only_void_pointer (t ∷ []) = is_void_pointer t
only_void_pointer ts = false

-- `void *f(void *x)`
abbrev pub is_thread_function : Option Signature → Bool
is_thread_function None = false
is_thread_function (Some g) = is_void_pointer g.result && only_void_pointer g.parameters

abbrev pub create_faults : Context → Name → Name → Exp → List TypeFault
create_faults k x f a =
    if_none (fault x.pos wrong.Unknown) (meaning k.scope x.text) ++ given (meaning k.scope x.text) (λ m. if_none (fault x.pos wrong.Mismatch) (thread_local (Some m)))
    ++ if_none (fault f.pos wrong.Unknown) (meaning k.scope f.text) ++ given (meaning k.scope f.text) (λ m. unless (is_thread_function (signature_of k (Some m))) (fault f.pos wrong.ThreadForm))
    ++ faults_in k.scope (OfType (Some void_pointer)) a

-- the word of a library call stands at p
abbrev pub library_faults : Context → Pos → Library → List TypeFault
library_faults k p (library.Lock n) = mutex_faults k.scope n
library_faults k p (library.Unlock n) = mutex_faults k.scope n
library_faults k p (library.Create x f a) = create_faults k x f a
library_faults k p (library.Join a) = faults_in k.scope (OfType (Some thread)) a
library_faults k p (library.Free a) = faults_in k.scope (OfType (Some void_pointer)) a
library_faults k p (library.Assert a) = faults_in k.scope Scalar a
library_faults k p (library.Print q t more) =
    unless (is_format t) (fault q wrong.Directive) ++ unless (directives t == length more) (fault p wrong.Mismatch) ++ each_faults k.scope int more

abbrev pub library_act : Context → Library → Act
library_act k (library.Lock n) = act.Lock (mutex k.scope n)
library_act k (library.Unlock n) = act.Unlock (mutex k.scope n)
library_act k (library.Create x f a) = act.Create (var_or_first (thread_local (meaning k.scope x.text))) (function_id k f.text) (value_in k.scope a)
library_act k (library.Join a) = act.Join (value_in k.scope a)
library_act k (library.Free a) = act.Free (value_in k.scope a)
library_act k (library.Assert a) = act.Assert (value_in k.scope a)
library_act k (library.Print q t more) = act.Print t (values_in k.scope more)
