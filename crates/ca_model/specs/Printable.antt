-- What makes the text of a program read back, beside its words: no field stands behind a number, whose digits its point would follow; no operand has the name of a call of the library; and no target is an operation of two operands.
use Rattle.std.specs.Prelude.{Bool, true, false, not, ◌&&◌, List, Option, Some, None}
use Rattle.std.specs.List.{list_all}
use Rattle.ca_tree.specs.declared.tree.Exp.{Exp, fold-Exp}
use Rattle.ca_tree.specs.declared.tree.Exp.TheOpen.{Exp-F}
use Rattle.ca_tree.specs.declared.tree.Right.{Right}
use Rattle.ca_tree.specs.declared.tree.Right.TheVariants as right
use Rattle.ca_tree.specs.declared.tree.Library.{Library}
use Rattle.ca_tree.specs.declared.tree.Library.TheVariants as library
use Rattle.ca_tree.specs.declared.tree.Simple.{Simple}
use Rattle.ca_tree.specs.declared.tree.Simple.TheVariants as simple
use Rattle.ca_tree.specs.declared.tree.LocalDeclarator.{LocalDeclarator}
use Rattle.ca_tree.specs.declared.tree.Locals.{Locals}
use Rattle.ca_tree.specs.declared.tree.Locals.TheVariants as locals
use Rattle.ca_tree.specs.declared.tree.ForFirst.{ForFirst}
use Rattle.ca_tree.specs.declared.tree.ForFirst.TheVariants as first
use Rattle.ca_tree.specs.declared.tree.ForHead.{ForHead}
use Rattle.ca_tree.specs.declared.tree.Stmt.{Stmt, fold-Stmt}
use Rattle.ca_tree.specs.declared.tree.Stmt.TheOpen.{Stmt-F}
use Rattle.ca_tree.specs.declared.tree.Body.{Body}
use Rattle.ca_tree.specs.declared.tree.Top.{Top}
use Rattle.ca_tree.specs.declared.tree.Top.TheVariants as top
use Rattle.ca_tree.specs.declared.tree.Program.{Program}
use Rattle.ca_tree.specs.Names.{is_library_word}

-- whether the text of an expression reads back, and its form
pub record Form : Type 0 where
  pub prints : Bool
  pub is_number : Bool
  pub is_binary : Bool

abbrev pub other_form : Bool → Form
other_form b = record { prints = b; is_number = false; is_binary = false }

abbrev pub form_step : Exp-F Form → Form
form_step (Exp-F.Number p n) = record { prints = true; is_number = true; is_binary = false }
form_step (Exp-F.Null p) = other_form true
form_step (Exp-F.Name n) = other_form (not (is_library_word n.text))
form_step (Exp-F.Unary p o a) = other_form a.prints
form_step (Exp-F.Binary p o a b) = record { prints = a.prints && b.prints; is_number = false; is_binary = true }
form_step (Exp-F.Index p a i) = other_form (a.prints && i.prints)
form_step (Exp-F.Field p a n) = other_form (a.prints && not a.is_number)
form_step (Exp-F.Arrow p a n) = other_form a.prints

abbrev pub form : Exp → Form
form = fold-Exp Form form_step

abbrev pub exp_prints : Exp → Bool
exp_prints a = (form a).prints

abbrev pub target_prints : Exp → Bool
target_prints a = exp_prints a && not (form a).is_binary

abbrev pub if_any : {A : Type 0} → (A → Bool) → Option A → Bool
if_any test None = true
if_any test (Some x) = test x

abbrev pub right_prints : Right → Bool
right_prints (right.Value a) = exp_prints a
right_prints (right.Call c) = list_all exp_prints c.arguments
right_prints (right.Malloc m) = if_any exp_prints m.count

abbrev pub library_prints : Library → Bool
library_prints (library.Create x f a) = exp_prints a
library_prints (library.Join a) = exp_prints a
library_prints (library.Free a) = exp_prints a
library_prints (library.Assert a) = exp_prints a
library_prints (library.Print p t more) = list_all exp_prints more
library_prints c = true

abbrev pub simple_prints : Simple → Bool
simple_prints (simple.Set a r) = target_prints a && right_prints r
simple_prints (simple.Update a o b) = target_prints a && exp_prints b
simple_prints (simple.Call c) = list_all exp_prints c.arguments
simple_prints (simple.Library c) = library_prints c

abbrev pub local_prints : LocalDeclarator → Bool
local_prints d = if_any right_prints d.value

abbrev pub locals_print : Locals → Bool
locals_print (locals.Threads ds) = true
locals_print (locals.Variables b ds) = list_all local_prints ds

abbrev pub first_prints : ForFirst → Bool
first_prints (first.Simple i a) = simple_prints a
first_prints (first.Local b d) = local_prints d

abbrev pub head_prints : ForHead → Bool
head_prints h = if_any first_prints h.first && (if_any exp_prints h.condition && if_any (λ x. simple_prints x.1) h.step)

abbrev pub all_true : List Bool → Bool
all_true = list_all (λ b. b)

abbrev pub printing : Stmt-F Bool → Bool
printing (Stmt-F.Block xs) = all_true xs
printing (Stmt-F.Locals l) = locals_print l
printing Stmt-F.Empty = true
printing (Stmt-F.Simple i a) = simple_prints a
printing (Stmt-F.Return i a) = if_any exp_prints a
printing (Stmt-F.Break p) = true
printing (Stmt-F.Continue p) = true
printing (Stmt-F.If i a x y) = exp_prints a && (x && if_any (λ b. b) y)
printing (Stmt-F.While i a body) = exp_prints a && body
printing (Stmt-F.Do body i a) = body && exp_prints a
printing (Stmt-F.For h body) = head_prints h && body

abbrev pub stmt_prints : Stmt → Bool
stmt_prints = fold-Stmt Bool printing

abbrev pub body_prints : Body → Bool
body_prints b = list_all stmt_prints b.statements

abbrev pub top_prints : Top → Bool
top_prints (top.Function f) = if_any body_prints f.body
top_prints t = true

abbrev pub is_printable : Program → Bool
is_printable p = list_all top_prints p.tops
