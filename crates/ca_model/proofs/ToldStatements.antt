-- What statements are told as, one level at a time.
use Rattle.std.proofs.Common.{◌≡◌, List, [], ◌∷◌, map, Option, Some, None, refl, ap, ◌∙◌}
use Rattle.ca_tree.specs.declared.text.Pos.{Pos}
use Rattle.ca_tree.specs.declared.tree.Exp.{Exp}
use Rattle.ca_tree.specs.declared.tree.ItemAt.{ItemAt}
use Rattle.ca_tree.specs.declared.tree.Locals.{Locals}
use Rattle.ca_tree.specs.declared.tree.Simple.{Simple}
use Rattle.ca_tree.specs.declared.tree.ForHead.{ForHead}
use Rattle.ca_tree.specs.declared.tree.Stmt.{Stmt, out-Stmt, map-Stmt, fold_out-Stmt}
use Rattle.ca_tree.specs.declared.tree.Stmt.TheOpen.{Stmt-F}
use Rattle.ca_tree.specs.declared.tree.Stmt.TheVariants as s
use Rattle.ca_model.specs.declared.tree.Stmt.TheVariants as typed
use Rattle.ca_model.specs.typing.SimpleStatements.{simple_faults, simple_act}
use Rattle.ca_model.specs.typing.Bodies.{Inside, Told, and_then, inner, left}
use Rattle.ca_model.specs.typing.Locals.{item, some_locals}
use Rattle.ca_model.specs.typing.Statements.{all_stmts, plain, return_faults, value_if_there, an_if, a_while, a_do, a_first, a_for, a_block, stmt_step, told, all_told}

pub told_out : (x : Stmt) (l : Stmt-F Stmt) → out-Stmt x ≡ l → (c : Inside) → told x c ≡ stmt_step (map-Stmt Stmt (Inside → Told) told l) c
told_out x l is c = ap (λ (f : Inside → Told). f c) (fold_out-Stmt (Inside → Told) stmt_step x ∙ ap (λ l. stmt_step (map-Stmt Stmt (Inside → Told) told l)) is)

-- a list of statements by the first
pub all_told_is : (xs : List Stmt) (c : Inside) → all_stmts (map told xs) c ≡ all_told xs c
all_told_is [] c = refl
all_told_is (x ∷ xs) c = ap (λ (f : Inside → Told). and_then (told x c) f) (λ i d. all_told_is xs d i)

pub told_block : (xs : List Stmt) (c : Inside) → told (s.Block xs) c ≡ a_block c (all_told xs (inner c))
told_block xs c = told_out (s.Block xs) _ (s.outs-Block xs) c ∙ ap (a_block c) (all_told_is xs (inner c))

pub told_locals : (l : Locals) (c : Inside) → told (s.Locals l) c ≡ some_locals l c
told_locals l = told_out (s.Locals l) _ (s.outs-Locals l)

pub told_empty : (c : Inside) → told s.Empty c ≡ plain c (typed.Block []) []
told_empty = told_out s.Empty _ s.outs-Empty

pub told_simple : (i : ItemAt) (a : Simple) (c : Inside) → told (s.Simple i a) c ≡ plain c (typed.Item (item i (simple_act c.context a))) (simple_faults c.context i.pos a)
told_simple i a = told_out (s.Simple i a) _ (s.outs-Simple i a)

pub told_return : (i : ItemAt) (a : Option Exp) (c : Inside) → told (s.Return i a) c ≡ plain c (typed.Item (item i (value_if_there c a))) (return_faults c i.pos a)
told_return i a = told_out (s.Return i a) _ (s.outs-Return i a)

pub told_break : (p : Pos) (c : Inside) → told (s.Break p) c ≡ plain c typed.Break []
told_break p = told_out (s.Break p) _ (s.outs-Break p)

pub told_continue : (p : Pos) (c : Inside) → told (s.Continue p) c ≡ plain c typed.Continue []
told_continue p = told_out (s.Continue p) _ (s.outs-Continue p)

pub told_if : (i : ItemAt) (a : Exp) (x : Stmt) (c : Inside) → told (s.If i a x None) c ≡ an_if c i a (told x c) None
told_if i a x = told_out (s.If i a x None) _ (s.outs-If i a x None)

-- the place behind the first branch is that before the second
pub told_else : (i : ItemAt) (a : Exp) (x y : Stmt) (c : Inside) → told (s.If i a x (Some y)) c ≡ an_if c i a (told x c) (Some (told y (left c (told x c).behind)))
told_else i a x y = told_out (s.If i a x (Some y)) _ (s.outs-If i a x (Some y))

pub told_while : (i : ItemAt) (a : Exp) (x : Stmt) (c : Inside) → told (s.While i a x) c ≡ a_while c i a (told x c)
told_while i a x = told_out (s.While i a x) _ (s.outs-While i a x)

pub told_do : (x : Stmt) (i : ItemAt) (a : Exp) (c : Inside) → told (s.Do x i a) c ≡ a_do c (told x c) i a
told_do x i a = told_out (s.Do x i a) _ (s.outs-Do x i a)

pub told_for : (h : ForHead) (x : Stmt) (c : Inside) → told (s.For h x) c ≡ a_for c h (a_first (inner c) h.first) (told x)
told_for h x = told_out (s.For h x) _ (s.outs-For h x)
