-- Declarations of parameters and locals (C11 6.2.1, 6.7).
use Rattle.std.specs.Prelude.{ℕ, ◌+◌, ◌-◌, Bool, not, ◌||◌, nat_lt, List, [], ◌∷◌, ◌++◌, take, length, Option, Some, None, if◌then◌else◌}
use Rattle.std.specs.Str.{bytes_eq}
use Rattle.std.specs.List.{list_any}
use Rattle.ca_tree.specs.declared.tree.Name.{Name}
use Rattle.ca_tree.specs.declared.tree.Base.{Base}
use Rattle.ca_tree.specs.declared.tree.Right.{Right}
use Rattle.ca_tree.specs.declared.tree.ItemAt.{ItemAt}
use Rattle.ca_tree.specs.declared.tree.LocalDeclarator.{LocalDeclarator}
use Rattle.ca_tree.specs.declared.tree.ThreadLocal.{ThreadLocal}
use Rattle.ca_tree.specs.declared.tree.Locals.{Locals}
use Rattle.ca_tree.specs.declared.tree.Locals.TheVariants as locals
use Rattle.ca_tree.specs.Names.{is_library_word}
use Rattle.ca_model.specs.declared.tree.Target.TheVariants as target
use Rattle.ca_model.specs.declared.tree.Act.{Act}
use Rattle.ca_model.specs.declared.tree.Act.TheVariants as act
use Rattle.ca_model.specs.declared.tree.Item.{Item}
use Rattle.ca_model.specs.declared.tree.Stmt.TheVariants as s
use Rattle.ca_model.specs.declared.types.TypeFault.{TypeFault}
use Rattle.ca_model.specs.declared.types.ObjectType.{ObjectType}
use Rattle.ca_model.specs.declared.types.Meaning.{Meaning}
use Rattle.ca_model.specs.declared.types.Meaning.TheVariants as means
use Rattle.ca_model.specs.declared.types.TypeKind.TheVariants as wrong
use Rattle.ca_model.specs.typing.Faults.{fault, unless, given}
use Rattle.ca_model.specs.typing.Types.{thread}
use Rattle.ca_model.specs.typing.TypeNames.{written_type, type_faults}
use Rattle.ca_model.specs.typing.Targets.{Aim}
use Rattle.ca_model.specs.typing.RightSides.{right_faults, set_act}
use Rattle.ca_model.specs.typing.Bodies.{Inside, Told, in_order}

abbrev pub with_locals : Inside → List (List ℕ × Meaning) → ℕ → Inside
with_locals c ls n = record c { context = record c.context { scope = record c.context.scope { locals = ls } }; count = n }

-- a name that is declared in this block, or is a call of the library
abbrev pub is_taken : Inside → List ℕ → Bool
is_taken c n = is_library_word n || list_any (λ x. bytes_eq n x.0) (take (length c.context.scope.locals - c.outer) c.context.scope.locals)

abbrev pub most_locals : ℕ
most_locals = 128

-- a local behind its declarator; one more than 128 isn't declared
abbrev pub declared : Inside → Name → Option ObjectType → Inside
declared c n t =
    if nat_lt c.count most_locals
    then with_locals c ((n.text, means.Local (record { 0 = c.count }) t) ∷ c.context.scope.locals) (c.count + 1)
    else c

abbrev pub declared_faults : Inside → Name → List TypeFault
declared_faults c n = unless (not (is_taken c n.text)) (fault n.pos wrong.Twice) ++ unless (nat_lt c.count most_locals) (fault n.pos wrong.TooManyLocals)

abbrev pub item : ItemAt → Act → Item
item i a = record { id = i.id; pos = i.pos; act = a }

abbrev pub local_aim : Inside → Option ObjectType → Aim
local_aim c t = record { of = t; at = Some (target.Local (record { 0 = c.count })) }

-- without an initialiser a local is set to 0
abbrev pub first_act : Inside → Option ObjectType → Option Right → Act
first_act c t None = act.Zero (record { 0 = c.count })
first_act c t (Some r) = set_act c.context (local_aim c t) r

-- an initialiser doesn't see its local
abbrev pub a_local : Base → Inside → LocalDeclarator → Told
a_local b c d = record {
  stmts = s.Item (item d.item (first_act c (written_type c.context.scope b d.stars) d.value)) ∷ [];
  faults = type_faults c.context.scope b ++ given d.value (right_faults c.context (local_aim c (written_type c.context.scope b d.stars))) ++ declared_faults c d.name;
  behind = declared c d.name (written_type c.context.scope b d.stars);
}

abbrev pub a_thread : Inside → ThreadLocal → Told
a_thread c d = record { stmts = s.Item (item d.item (act.Zero (record { 0 = c.count }))) ∷ []; faults = declared_faults c d.name; behind = declared c d.name (Some thread) }

abbrev pub some_locals : Locals → Inside → Told
some_locals (locals.Threads ds) = in_order a_thread ds
some_locals (locals.Variables b ds) = in_order (a_local b) ds
