-- Statements: their typed trees, and what is wrong in them (C11 6.8).
use Rattle.std.specs.Prelude.{pos, Bool, true, List, [], ◌∷◌, ◌++◌, Option, Some, None}
use Rattle.ca_tree.specs.declared.text.Pos.{Pos}
use Rattle.ca_tree.specs.declared.tree.Exp.{Exp}
use Rattle.ca_tree.specs.declared.tree.Simple.{Simple}
use Rattle.ca_tree.specs.declared.tree.ItemAt.{ItemAt}
use Rattle.ca_tree.specs.declared.tree.ForFirst.{ForFirst}
use Rattle.ca_tree.specs.declared.tree.ForFirst.TheVariants as first
use Rattle.ca_tree.specs.declared.tree.ForHead.{ForHead}
use Rattle.ca_tree.specs.declared.tree.Stmt.{Stmt, fold-Stmt}
use Rattle.ca_tree.specs.declared.tree.Stmt.TheOpen.{Stmt-F}
use Rattle.ca_model.specs.declared.tree.Exp.TheVariants as e
use Rattle.ca_model.specs.declared.tree.Act.{Act}
use Rattle.ca_model.specs.declared.tree.Act.TheVariants as act
use Rattle.ca_model.specs.declared.tree.Item.{Item}
use Rattle.ca_model.specs.declared.tree.Stmt.{Stmt as TypedStmt}
use Rattle.ca_model.specs.declared.tree.Stmt.TheVariants as s
use Rattle.ca_model.specs.declared.types.TypeFault.{TypeFault}
use Rattle.ca_model.specs.declared.types.ObjectType.{ObjectType}
use Rattle.ca_model.specs.declared.types.TypeKind.TheVariants as wrong
use Rattle.ca_model.specs.declared.types.Wanted.TheVariants.{Scalar, OfType}
use Rattle.ca_model.specs.typing.Faults.{fault, unless, given}
use Rattle.ca_model.specs.typing.Types.{is_void}
use Rattle.ca_model.specs.typing.Uses.{value_in, faults_in}
use Rattle.ca_model.specs.typing.SimpleStatements.{simple_faults, simple_act}
use Rattle.ca_model.specs.typing.Bodies.{Inside, Told, nothing, and_then, in_order, inner, left}
use Rattle.ca_model.specs.typing.Locals.{item, a_local, some_locals}

abbrev pub all_stmts : List (Inside → Told) → Inside → Told
all_stmts [] c = nothing c
all_stmts (x ∷ xs) c = and_then (x c) (all_stmts xs)

-- one statement: what stands in braces, and what is more than one
abbrev pub single : List TypedStmt → TypedStmt
single (x ∷ []) = x
single xs = s.Block xs

abbrev pub plain : Inside → TypedStmt → List TypeFault → Told
plain c x fs = record { stmts = x ∷ []; faults = fs; behind = c }

abbrev pub condition : Inside → ItemAt → Exp → Item
condition c i a = item i (act.Cond (value_in c.context.scope a))

abbrev pub condition_faults : Inside → Exp → List TypeFault
condition_faults c a = faults_in c.context.scope Scalar a

-- an absent condition is true
abbrev pub condition_or_one : Inside → ItemAt → Option Exp → Item
condition_or_one c i None = item i (act.Cond (e.Num (pos 1)))
condition_or_one c i (Some a) = condition c i a

abbrev pub gives_nothing : Option ObjectType → Bool
gives_nothing None = true
gives_nothing (Some t) = is_void t

abbrev pub return_faults : Inside → Pos → Option Exp → List TypeFault
return_faults c p None = unless (gives_nothing c.result) (fault p wrong.Mismatch)
return_faults c p (Some a) = faults_in c.context.scope (OfType c.result) a

abbrev pub value_if_there : Inside → Option Exp → Act
value_if_there c None = act.Return None
value_if_there c (Some a) = act.Return (Some (value_in c.context.scope a))

abbrev pub with_else : Inside → Option (Inside → Told) → Option Told
with_else c None = None
with_else c (Some f) = Some (f c)

abbrev pub stmt_if_there : Option Told → Option TypedStmt
stmt_if_there None = None
stmt_if_there (Some x) = Some (single x.stmts)

abbrev pub behind_else : Inside → Option Told → Inside
behind_else c None = c
behind_else c (Some x) = x.behind

abbrev pub an_if : Inside → ItemAt → Exp → Told → Option Told → Told
an_if c i a x y = record {
  stmts = s.If (condition c i a) (single x.stmts) (stmt_if_there y) ∷ [];
  faults = condition_faults c a ++ x.faults ++ given y (λ z. z.faults);
  behind = left c (behind_else x.behind y);
}

abbrev pub a_while : Inside → ItemAt → Exp → Told → Told
a_while c i a body = record { stmts = s.While (condition c i a) (single body.stmts) ∷ []; faults = condition_faults c a ++ body.faults; behind = left c body.behind }

abbrev pub a_do : Inside → Told → ItemAt → Exp → Told
a_do c body i a = record { stmts = s.Do (single body.stmts) (condition c i a) ∷ []; faults = body.faults ++ condition_faults c a; behind = left c body.behind }

-- the head of a `for`: its initialiser, which its other parts and its body see
abbrev pub a_first : Inside → Option ForFirst → Told
a_first c None = nothing c
a_first c (Some (first.Simple i a)) = plain c (s.Item (item i (simple_act c.context a))) (simple_faults c.context i.pos a)
a_first c (Some (first.Local b d)) = a_local b c d

abbrev pub item_of : List TypedStmt → Option Item
item_of (s.Item i ∷ xs) = Some i
item_of xs = None

abbrev pub a_step : Inside → Option (ItemAt × Simple) → Option Item
a_step c None = None
a_step c (Some x) = Some (item x.0 (simple_act c.context x.1))

abbrev pub a_for : Inside → ForHead → Told → (Inside → Told) → Told
a_for c h begun body = record {
  stmts = s.For (item_of begun.stmts) (condition_or_one begun.behind h.item h.condition) (a_step begun.behind h.step) (single (body begun.behind).stmts) ∷ [];
  faults = begun.faults ++ given h.condition (condition_faults begun.behind) ++ given h.step (λ x. simple_faults begun.behind.context x.0.pos x.1) ++ (body begun.behind).faults;
  behind = left c (body begun.behind).behind;
}

abbrev pub a_block : Inside → Told → Told
a_block c x = record { stmts = s.Block x.stmts ∷ []; faults = x.faults; behind = left c x.behind }

abbrev pub stmt_step : Stmt-F (Inside → Told) → Inside → Told
stmt_step (Stmt-F.Block xs) c = a_block c (all_stmts xs (inner c))
stmt_step (Stmt-F.Locals l) c = some_locals l c
stmt_step Stmt-F.Empty c = plain c (s.Block []) []
stmt_step (Stmt-F.Simple i a) c = plain c (s.Item (item i (simple_act c.context a))) (simple_faults c.context i.pos a)
stmt_step (Stmt-F.Return i a) c = plain c (s.Item (item i (value_if_there c a))) (return_faults c i.pos a)
stmt_step (Stmt-F.Break p) c = plain c s.Break []
stmt_step (Stmt-F.Continue p) c = plain c s.Continue []
stmt_step (Stmt-F.If i a x y) c = an_if c i a (x c) (with_else (left c (x c).behind) y)
stmt_step (Stmt-F.While i a body) c = a_while c i a (body c)
stmt_step (Stmt-F.Do body i a) c = a_do c (body c) i a
stmt_step (Stmt-F.For h body) c = a_for c h (a_first (inner c) h.first) body

abbrev pub told : Stmt → Inside → Told
told = fold-Stmt (Inside → Told) stmt_step

abbrev pub all_told : List Stmt → Inside → Told
all_told xs = in_order (λ c x. told x c) xs
