-- Places in a function, and what statements make of them.
use Rattle.std.specs.Prelude.{ℕ, List, [], ◌∷◌, ◌++◌, length, Option}
use Rattle.ca_model.specs.declared.tree.Stmt.{Stmt as TypedStmt}
use Rattle.ca_model.specs.declared.types.TypeFault.{TypeFault}
use Rattle.ca_model.specs.declared.types.ObjectType.{ObjectType}
use Rattle.ca_model.specs.typing.Scopes.{Context}

-- a place in a function: what is visible, how many of the visible locals are of blocks round this one, how many parameters and locals there are so far, and what the function gives
pub record Inside : Type 0 where
  pub context : Context
  pub outer : ℕ
  pub count : ℕ
  pub result : Option ObjectType

-- what a statement is and what is wrong in it, and the place behind it
pub record Told : Type 0 where
  pub stmts : List TypedStmt
  pub faults : List TypeFault
  pub behind : Inside

abbrev pub nothing : Inside → Told
nothing c = record { stmts = []; faults = []; behind = c }

-- one after another
abbrev pub and_then : Told → (Inside → Told) → Told
and_then x f = record { stmts = x.stmts ++ (f x.behind).stmts; faults = x.faults ++ (f x.behind).faults; behind = (f x.behind).behind }

abbrev pub in_order : {A : Type 0} → (Inside → A → Told) → List A → Inside → Told
in_order f [] c = nothing c
in_order f (x ∷ xs) c = and_then (f c x) (in_order f xs)

-- a block inside this one, and the place behind it
abbrev pub inner : Inside → Inside
inner c = record c { outer = length c.context.scope.locals }

abbrev pub left : Inside → Inside → Inside
left c d = record c { count = d.count }
