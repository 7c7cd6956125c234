-- The sites in the text of a program, in order of item and evaluation: each with its item, its kind and its place. A load and a store have the place of
-- the first character of what they go to, with no parentheses directly round it; an assertion, a `free` and a lock have that of their word.
use Rattle.std.specs.Prelude.{Bool, true, false, List, [], ◌∷◌, ◌++◌, map, Option, Some, None, if◌then◌else◌}
use Rattle.ca_tree.specs.declared.numbers.ItemId.{ItemId}
use Rattle.ca_tree.specs.declared.text.Pos.{Pos}
use Rattle.ca_tree.specs.declared.tree.UnaryOp.{UnaryOp}
use Rattle.ca_tree.specs.declared.tree.UnaryOp.TheVariants as unary_op
use Rattle.ca_tree.specs.declared.tree.Exp.{Exp, fold-Exp}
use Rattle.ca_tree.specs.declared.tree.Exp.TheOpen.{Exp-F}
use Rattle.ca_tree.specs.declared.tree.ItemAt.{ItemAt}
use Rattle.ca_tree.specs.declared.tree.Right.{Right}
use Rattle.ca_tree.specs.declared.tree.Right.TheVariants as right
use Rattle.ca_tree.specs.declared.tree.Library.{Library}
use Rattle.ca_tree.specs.declared.tree.Library.TheVariants as library
use Rattle.ca_tree.specs.declared.tree.Simple.{Simple}
use Rattle.ca_tree.specs.declared.tree.Simple.TheVariants as simple
use Rattle.ca_tree.specs.declared.tree.LocalDeclarator.{LocalDeclarator}
use Rattle.ca_tree.specs.declared.tree.Locals.{Locals}
use Rattle.ca_tree.specs.declared.tree.Locals.TheVariants as locals
use Rattle.ca_tree.specs.declared.tree.ForFirst.{ForFirst}
use Rattle.ca_tree.specs.declared.tree.ForFirst.TheVariants as first
use Rattle.ca_tree.specs.declared.tree.ForHead.{ForHead}
use Rattle.ca_tree.specs.declared.tree.Stmt.{Stmt, fold-Stmt}
use Rattle.ca_tree.specs.declared.tree.Stmt.TheOpen.{Stmt-F}
use Rattle.ca_tree.specs.declared.tree.Body.{Body}
use Rattle.ca_tree.specs.declared.tree.Top.{Top}
use Rattle.ca_tree.specs.declared.tree.Top.TheVariants as top
use Rattle.ca_tree.specs.declared.tree.Program.{Program}
use Rattle.ca_sites.specs.declared.items.TextSite.{TextSite}
use Rattle.ca_sites.specs.declared.site.SiteKind.{SiteKind}
use Rattle.ca_sites.specs.declared.site.SiteKind.TheVariants as kind

-- ---- expressions, in which each site is a load

-- an expression: the place of its first character, whether it is a place that is found through a pointer or an index (C11 6.5.2.1, 6.5.2.3, 6.5.3.2),
-- and the places of the loads that are made to find it, or to get its value where it is none
pub record Sought : Type 0 where
  pub pos : Pos
  pub through : Bool
  pub within : List Pos

-- an access to it is a site where it is found through a pointer or an index
abbrev pub accessed : Sought → List Pos
accessed x = if x.through then x.pos ∷ [] else []

-- its value
abbrev pub valued : Sought → List Pos
valued x = x.within ++ accessed x

abbrev pub found_at : Pos → Bool → List Pos → Sought
found_at p through within = record { pos = p; through = through; within = within }

-- `&a` finds a and loads nothing of it
abbrev pub by_unary : UnaryOp → Pos → Sought → Sought
by_unary unary_op.Deref p a = found_at p true (valued a)
by_unary unary_op.AddressOf p a = found_at p false a.within
by_unary unary_op.Negate p a = found_at p false (valued a)
by_unary unary_op.Not p a = found_at p false (valued a)

-- operands from left to right, the right operands of `&&` and `||` too
abbrev pub exp_step : Exp-F Sought → Sought
exp_step (Exp-F.Number p n) = found_at p false []
exp_step (Exp-F.Null p) = found_at p false []
exp_step (Exp-F.Name n) = found_at n.pos false []
exp_step (Exp-F.Unary p o a) = by_unary o p a
exp_step (Exp-F.Binary p o a b) = found_at p false (valued a ++ valued b)
exp_step (Exp-F.Index p a i) = found_at p true (valued a ++ valued i)
exp_step (Exp-F.Field p a n) = found_at p a.through a.within
exp_step (Exp-F.Arrow p a n) = found_at p true (valued a)

abbrev pub sought : Exp → Sought
sought = fold-Exp Sought exp_step

abbrev pub value_places : Exp → List Pos
value_places e = valued (sought e)

abbrev pub values_places : List Exp → List Pos
values_places [] = []
values_places (e ∷ es) = value_places e ++ values_places es

abbrev pub if_written : Option Exp → List Pos
if_written None = []
if_written (Some e) = value_places e

-- ---- simple statements

-- the sites of an item, of one kind, at some places
abbrev pub sites_at : ItemId → SiteKind → List Pos → List TextSite
sites_at i k ps = map (λ p. record { item = i; kind = k; pos = p }) ps

abbrev pub loads : ItemId → List Pos → List TextSite
loads i ps = sites_at i kind.Load ps

abbrev pub stores : ItemId → List Pos → List TextSite
stores i ps = sites_at i kind.Store ps

-- the site of a call of the library, whose item begins with its word
abbrev pub word_site : ItemAt → SiteKind → List TextSite
word_site i k = sites_at i.id k (i.pos ∷ [])

-- what a right side loads
abbrev pub right_places : Right → List Pos
right_places (right.Value e) = value_places e
right_places (right.Call c) = values_places c.arguments
right_places (right.Malloc m) = if_written m.count

abbrev pub right_if_written : Option Right → List Pos
right_if_written None = []
right_if_written (Some r) = right_places r

abbrev pub library_sites : ItemAt → Library → List TextSite
library_sites i (library.Lock n) = word_site i kind.Lock
library_sites i (library.Unlock n) = []
library_sites i (library.Create x f e) = loads i.id (value_places e)
library_sites i (library.Join e) = loads i.id (value_places e)
library_sites i (library.Free e) = loads i.id (value_places e) ++ word_site i kind.Free
library_sites i (library.Assert e) = loads i.id (value_places e) ++ word_site i kind.Assert
library_sites i (library.Print q t es) = loads i.id (values_places es)

-- `a = b` finds a, gets the value of b and stores it; `a op= b` finds a once (C11 6.5.16.2), and loads it before b
abbrev pub simple_sites : ItemAt → Simple → List TextSite
simple_sites i (simple.Set a r) = loads i.id (sought a).within ++ (loads i.id (right_places r) ++ stores i.id (accessed (sought a)))
simple_sites i (simple.Update a o b) = loads i.id (sought a).within ++ (loads i.id (accessed (sought a)) ++ (loads i.id (value_places b) ++ stores i.id (accessed (sought a))))
simple_sites i (simple.Call c) = loads i.id (values_places c.arguments)
simple_sites i (simple.Library l) = library_sites i l

-- ---- statements

abbrev pub declarator_sites : LocalDeclarator → List TextSite
declarator_sites d = loads d.item.id (right_if_written d.value)

abbrev pub declarators_sites : List LocalDeclarator → List TextSite
declarators_sites [] = []
declarators_sites (d ∷ ds) = declarator_sites d ++ declarators_sites ds

abbrev pub locals_sites : Locals → List TextSite
locals_sites (locals.Threads ds) = []
locals_sites (locals.Variables b ds) = declarators_sites ds

abbrev pub first_sites : Option ForFirst → List TextSite
first_sites None = []
first_sites (Some (first.Simple i a)) = simple_sites i a
first_sites (Some (first.Local b d)) = declarator_sites d

abbrev pub step_sites : Option (ItemAt × Simple) → List TextSite
step_sites None = []
step_sites (Some s) = simple_sites s.0 s.1

-- in the order of the text
abbrev pub head_sites : ForHead → List TextSite
head_sites h = first_sites h.first ++ (loads h.item.id (if_written h.condition) ++ step_sites h.step)

abbrev pub joined : List (List TextSite) → List TextSite
joined [] = []
joined (ss ∷ sss) = ss ++ joined sss

abbrev pub or_nothing : Option (List TextSite) → List TextSite
or_nothing None = []
or_nothing (Some ss) = ss

abbrev pub stmt_step : Stmt-F (List TextSite) → List TextSite
stmt_step (Stmt-F.Block sss) = joined sss
stmt_step (Stmt-F.Locals l) = locals_sites l
stmt_step Stmt-F.Empty = []
stmt_step (Stmt-F.Simple i a) = simple_sites i a
stmt_step (Stmt-F.Return i e) = loads i.id (if_written e)
stmt_step (Stmt-F.Break p) = []
stmt_step (Stmt-F.Continue p) = []
stmt_step (Stmt-F.If i e one other) = loads i.id (value_places e) ++ (one ++ or_nothing other)
stmt_step (Stmt-F.While i e body) = loads i.id (value_places e) ++ body
stmt_step (Stmt-F.Do body i e) = body ++ loads i.id (value_places e)
stmt_step (Stmt-F.For h body) = head_sites h ++ body

abbrev pub stmt_sites : Stmt → List TextSite
stmt_sites = fold-Stmt (List TextSite) stmt_step

abbrev pub stmts_sites : List Stmt → List TextSite
stmts_sites [] = []
stmts_sites (s ∷ ss) = stmt_sites s ++ stmts_sites ss

-- ---- programs

abbrev pub body_sites : Option Body → List TextSite
body_sites None = []
body_sites (Some b) = stmts_sites b.statements

abbrev pub top_sites : Top → List TextSite
top_sites (top.Function f) = body_sites f.body
top_sites (top.Struct a) = []
top_sites (top.Globals a) = []

abbrev pub tops_sites : List Top → List TextSite
tops_sites [] = []
tops_sites (t ∷ ts) = top_sites t ++ tops_sites ts

-- all sites in the text of a program
abbrev pub text_sites : Program → List TextSite
text_sites p = tops_sites p.tops
