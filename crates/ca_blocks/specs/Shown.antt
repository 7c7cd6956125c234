-- What a place in a function shows, and how one place follows another.
use Rattle.std.specs.Prelude.{◌≡◌, ℕ, List, ◌++◌, length, Option, Some, None}
use Rattle.ca_tree.specs.declared.tree.ForHead.{ForHead}
use Rattle.ca_tree.specs.declared.tree.Stmt.{Stmt}
use Rattle.ca_model.specs.declared.types.ObjectType.{ObjectType}
use Rattle.ca_model.specs.declared.types.Meaning.{Meaning}
use Rattle.ca_model.specs.typing.Scopes.{Scope}
use Rattle.ca_model.specs.typing.Bodies.{Inside, Told, inner, left}
use Rattle.ca_model.specs.typing.Locals.{with_locals}
use Rattle.ca_model.specs.typing.Statements.{a_first, a_for, told}
use Rattle.ca_bodies.specs.Functions.{Functions, context}

abbrev pub shown_inside : Scope → Functions → ℕ → ℕ → Option ObjectType → Inside
shown_inside s functions outer count result = record { context = context s functions; outer = outer; count = count; result = result }

-- a later place of the same block, or of one further in: it differs by more locals, where its block begins, and the count
pub record GrewTo (c d : Inside) : Type 0 where
  pub more : List (List ℕ × Meaning)
  pub is : d ≡ record (with_locals c (more ++ c.context.scope.locals) d.count) { outer = d.outer }

-- what is left of a block, for the place where it was entered: so many locals were visible, and a block began at so many
abbrev pub LeavesTo : ℕ × ℕ → Inside → Inside → Type 0
LeavesTo was d e = (c : Inside) → was ≡ (length c.context.scope.locals, c.outer) → GrewTo c d → e ≡ left c d

-- ---- statements

-- the statement behind an `else`, from the place behind the first branch on
abbrev pub else_told : Option Stmt → Inside → Option Told
else_told None c = None
else_told (Some y) c = Some (told y c)

-- a `for` with what it does first, in the scope of its head
abbrev pub for_told : Inside → ForHead → Stmt → Told
for_told c h body = a_for c h (a_first (inner c) h.first) (told body)
