-- The right sides of assignments and declarations: values, calls, and `malloc` (C11 7.22.3.4).
use Rattle.std.specs.Prelude.{pos, Bool, true, ◌&&◌, List, ◌++◌, Option, Some, None}
use Rattle.ca_tree.specs.declared.tree.Exp.{Exp}
use Rattle.ca_tree.specs.declared.tree.«Type».{«Type» as CType}
use Rattle.ca_tree.specs.declared.tree.Malloc.{Malloc}
use Rattle.ca_tree.specs.declared.tree.Right.{Right}
use Rattle.ca_tree.specs.declared.tree.Right.TheVariants as right
use Rattle.ca_model.specs.declared.tree.Exp.{Exp as TypedExp}
use Rattle.ca_model.specs.declared.tree.Exp.TheVariants as e
use Rattle.ca_model.specs.declared.tree.Act.{Act}
use Rattle.ca_model.specs.declared.tree.Act.TheVariants as act
use Rattle.ca_model.specs.declared.types.TypeFault.{TypeFault}
use Rattle.ca_model.specs.declared.types.ObjectType.{ObjectType}
use Rattle.ca_model.specs.declared.types.TypeKind.TheVariants as wrong
use Rattle.ca_model.specs.declared.types.Wanted.TheVariants.{OfType}
use Rattle.ca_model.specs.typing.Faults.{fault, unless, given}
use Rattle.ca_model.specs.typing.Types.{int, held}
use Rattle.ca_model.specs.typing.Values.{pointer_fits}
use Rattle.ca_model.specs.typing.Scopes.{Scope, Context}
use Rattle.ca_model.specs.typing.TypeNames.{type_faults, type_in, both_same, cells_of}
use Rattle.ca_model.specs.typing.Uses.{value_in, faults_in}
use Rattle.ca_model.specs.typing.Targets.{Aim, target_at, local_at}
use Rattle.ca_model.specs.typing.Calls.{call_faults, call_act}

abbrev pub count_or_one : Scope → Option Exp → TypedExp
count_or_one s None = e.Num (pos 1)
count_or_one s (Some a) = value_in s a

-- a cast names the type of the target; `malloc` gives a pointer to the type in `sizeof`
abbrev pub pointer_goes_into : Option ObjectType → Option ObjectType → Bool
pointer_goes_into (Some t) (Some u) = pointer_fits t (held u)
pointer_goes_into t u = true

abbrev pub cast_is_right : Scope → Option CType → Option ObjectType → Bool
cast_is_right s None u = true
cast_is_right s (Some c) u = both_same (type_in s c) u

abbrev pub malloc_faults : Scope → Aim → Malloc → List TypeFault
malloc_faults s a m =
    given m.cast (λ c. type_faults s c.base) ++ given m.count (faults_in s (OfType (Some int))) ++ type_faults s m.of.base
    ++ unless (cast_is_right s m.cast a.of && pointer_goes_into (type_in s m.of) a.of) (fault m.pos wrong.Mismatch)

abbrev pub right_faults : Context → Aim → Right → List TypeFault
right_faults k a (right.Value b) = faults_in k.scope (OfType a.of) b
right_faults k a (right.Call c) = call_faults k (Some a) c
right_faults k a (right.Malloc m) = malloc_faults k.scope a m

-- the act that gives a right side to a target
abbrev pub set_act : Context → Aim → Right → Act
set_act k a (right.Value b) = act.Set (target_at a.at) (value_in k.scope b)
set_act k a (right.Call c) = call_act k (local_at a.at) c
set_act k a (right.Malloc m) = act.Malloc (target_at a.at) (count_or_one k.scope m.count) (cells_of k.scope (type_in k.scope m.of))
