-- The items of told statements: numbered as the tree numbers them, conditions and simple acts where these stand, `break` and `continue` in loops.
use Rattle.std.proofs.Common.{◌≡◌, ℕ, suc, Bool, true, false, List, Option, Some, None, refl, sym, subst}
use Rattle.ca_tree.specs.declared.tree.Base.{Base}
use Rattle.ca_tree.specs.declared.tree.Exp.{Exp}
use Rattle.ca_tree.specs.declared.tree.ItemAt.{ItemAt}
use Rattle.ca_tree.specs.declared.tree.Right.{Right}
use Rattle.ca_tree.specs.declared.tree.Right.TheVariants as right
use Rattle.ca_tree.specs.declared.tree.Library.{Library}
use Rattle.ca_tree.specs.declared.tree.Library.TheVariants as library
use Rattle.ca_tree.specs.declared.tree.Simple.{Simple}
use Rattle.ca_tree.specs.declared.tree.Simple.TheVariants as simple
use Rattle.ca_tree.specs.declared.tree.LocalDeclarator.{LocalDeclarator}
use Rattle.ca_tree.specs.declared.tree.ThreadLocal.{ThreadLocal}
use Rattle.ca_tree.specs.declared.tree.Locals.{Locals}
use Rattle.ca_tree.specs.declared.tree.ForFirst.{ForFirst}
use Rattle.ca_tree.specs.declared.tree.ForHead.{ForHead}
use Rattle.ca_tree.specs.declared.tree.Stmt.{Stmt}
use Rattle.ca_tree.specs.TreeWords.{Words}
use Rattle.ca_tree.specs.StatementTrees.{Branch, Head, IsLocal, MoreLocals, MoreThreads, IsLocals, IsFirst, IsCondition, IsStep, Part, Unbraced, A_statement, A_body, Statements, Tree, IsTree}
use Rattle.ca_tree.specs.StatementTrees as tree
use Rattle.ca_model.specs.declared.types.ObjectType.{ObjectType}
use Rattle.ca_model.specs.Destroying.{is_last}
use Rattle.ca_model.specs.WellFormed.{is_simple, is_condition}
use Rattle.ca_model.specs.typing.Scopes.{Context}
use Rattle.ca_model.specs.typing.TypeNames.{written_type}
use Rattle.ca_model.specs.typing.Targets.{Aim, aim}
use Rattle.ca_model.specs.typing.RightSides.{set_act}
use Rattle.ca_model.specs.typing.LibraryCalls.{library_act}
use Rattle.ca_model.specs.typing.SimpleStatements.{simple_act}
use Rattle.ca_model.specs.typing.Bodies.{Inside, Told, inner, left}
use Rattle.ca_model.specs.typing.Locals.{first_act, local_aim, a_local, a_thread, some_locals}
use Rattle.ca_model.specs.typing.Statements.{condition_or_one, value_if_there, a_first, a_step, item_of, told, all_told}
use Rattle.ca_model.specs.typing.Bodies.{in_order}
use Rattle.ca_model.proofs.ToldStatements.{told_block, told_locals, told_empty, told_simple, told_return, told_break, told_continue, told_if, told_else, told_while, told_do, told_for}
use Rattle.ca_model.proofs.PlacedItems.{AllStand, StandsInHead, none_stands, then_stand, alone_stands, block_stands, single_stands, item_stands, break_stands, continue_stands, if_stands, else_stands, while_stands, do_stands, none_in_head, some_in_head, for_stands}

-- ---- acts

set_is_simple : (k : Context) (a : Aim) (r : Right) → is_simple (set_act k a r) ≡ true
set_is_simple k a (right.Value b) = refl
set_is_simple k a (right.Call c) = refl
set_is_simple k a (right.Malloc m) = refl

set_goes_on : (k : Context) (a : Aim) (r : Right) → is_last (set_act k a r) ≡ false
set_goes_on k a (right.Value b) = refl
set_goes_on k a (right.Call c) = refl
set_goes_on k a (right.Malloc m) = refl

library_is_simple : (k : Context) (c : Library) → is_simple (library_act k c) ≡ true
library_is_simple k (library.Lock n) = refl
library_is_simple k (library.Unlock n) = refl
library_is_simple k (library.Create x f a) = refl
library_is_simple k (library.Join a) = refl
library_is_simple k (library.Free a) = refl
library_is_simple k (library.Assert a) = refl
library_is_simple k (library.Print q t more) = refl

library_goes_on : (k : Context) (c : Library) → is_last (library_act k c) ≡ false
library_goes_on k (library.Lock n) = refl
library_goes_on k (library.Unlock n) = refl
library_goes_on k (library.Create x f a) = refl
library_goes_on k (library.Join a) = refl
library_goes_on k (library.Free a) = refl
library_goes_on k (library.Assert a) = refl
library_goes_on k (library.Print q t more) = refl

act_is_simple : (k : Context) (a : Simple) → is_simple (simple_act k a) ≡ true
act_is_simple k (simple.Set a r) = set_is_simple k (aim k.scope a) r
act_is_simple k (simple.Update a o b) = refl
act_is_simple k (simple.Call c) = refl
act_is_simple k (simple.Library c) = library_is_simple k c

act_goes_on : (k : Context) (a : Simple) → is_last (simple_act k a) ≡ false
act_goes_on k (simple.Set a r) = set_goes_on k (aim k.scope a) r
act_goes_on k (simple.Update a o b) = refl
act_goes_on k (simple.Call c) = refl
act_goes_on k (simple.Library c) = library_goes_on k c

first_is_simple : (c : Inside) (t : Option ObjectType) (r : Option Right) → is_simple (first_act c t r) ≡ true
first_is_simple c t None = refl
first_is_simple c t (Some r) = set_is_simple c.context (local_aim c t) r

first_goes_on : (c : Inside) (t : Option ObjectType) (r : Option Right) → is_last (first_act c t r) ≡ false
first_goes_on c t None = refl
first_goes_on c t (Some r) = set_goes_on c.context (local_aim c t) r

return_is_simple : (c : Inside) (a : Option Exp) → is_simple (value_if_there c a) ≡ true
return_is_simple c None = refl
return_is_simple c (Some a) = refl

-- ---- locals

-- a part as it is told
abbrev pub told_part : (p : Part) → Tree p → Inside → Told
told_part Unbraced a = told a.stmt
told_part A_statement a = told a.stmt
told_part A_body a = told a.stmt
told_part Statements xs = all_told xs

module _ (words : Words) where
  local_stands : {b : Base} {in_loop : Bool} {n : ℕ} {p : _} {d : LocalDeclarator} → IsLocal words b n p d → (c : Inside) → AllStand in_loop n (a_local b c d).stmts (suc n)
  local_stands {b = b} (tree.a_local {k = k} {r = r} room star name value) c = alone_stands (item_stands _ refl (first_is_simple c (written_type c.context.scope b k) r))

  more_locals_stand : {b : Base} {in_loop : Bool} {n m : ℕ} {ds : List LocalDeclarator} → MoreLocals words b n ds m → (c : Inside) → AllStand in_loop n (in_order (a_local b) ds c).stmts m
  more_locals_stand tree.no_local c = none_stands
  more_locals_stand (tree.one_local l at more) c = then_stand (local_stands l c) (more_locals_stand more _)

  more_threads_stand : {in_loop : Bool} {n m : ℕ} {ds : List ThreadLocal} → MoreThreads words n ds m → (c : Inside) → AllStand in_loop n (in_order a_thread ds c).stmts m
  more_threads_stand tree.no_thread c = none_stands
  more_threads_stand (tree.one_thread room name more) c = then_stand (alone_stands (item_stands _ refl refl)) (more_threads_stand more _)

  locals_stand : {in_loop : Bool} {n m : ℕ} {l : Locals} → IsLocals words n l m → (c : Inside) → AllStand in_loop n (some_locals l c).stmts m
  locals_stand (tree.threads room name more) c = then_stand (alone_stands (item_stands _ refl refl)) (more_threads_stand more _)
  locals_stand (tree.variables base l more) c = then_stand (local_stands l c) (more_locals_stand more _)

  -- ---- heads

  begun_in_head : {n m : ℕ} {f : Option ForFirst} → IsFirst words n f m → (c : Inside) → StandsInHead n (item_of (a_first c f).stmts) m
  begun_in_head tree.nothing_first c = none_in_head
  begun_in_head (tree.simple_first {a = a} h) c = some_in_head _ refl (act_is_simple c.context a) (act_goes_on c.context a)
  begun_in_head (tree.local_first {b = b} base (tree.a_local {k = k} {r = r} room star name value)) c =
      some_in_head _ refl (first_is_simple c (written_type c.context.scope b k) r) (first_goes_on c (written_type c.context.scope b k) r)

  step_in_head : {n m : ℕ} {g : Option (ItemAt × Simple)} → IsStep words n g m → (c : Inside) → StandsInHead n (a_step c g) m
  step_in_head tree.no_step c = none_in_head
  step_in_head (tree.a_step {a = a} h) c = some_in_head _ refl (act_is_simple c.context a) (act_goes_on c.context a)

  condition_number : {n : ℕ} {h : Head (Option Exp)} → IsCondition words n h → (c : Inside) → (condition_or_one c h.item h.what).id.0 ≡ suc n
  condition_number tree.no_condition c = refl
  condition_number (tree.a_condition e) c = refl

  asks_in_head : {n : ℕ} {h : Head (Option Exp)} → IsCondition words n h → (c : Inside) → is_condition (condition_or_one c h.item h.what).act ≡ true
  asks_in_head tree.no_condition c = refl
  asks_in_head (tree.a_condition e) c = refl

  -- ---- statements

  told_as : {in_loop : Bool} {n m : ℕ} {x y : Told} → x ≡ y → AllStand in_loop n y.stmts m → AllStand in_loop n x.stmts m
  told_as {in_loop = in_loop} {n = n} {m = m} is h = subst (λ (z : Told). AllStand in_loop n z.stmts m) (sym is) h

  told_in_place : {p : Part} {in_loop : Bool} {d n : ℕ} {a : Tree p} {m : ℕ} → IsTree words p in_loop d n a m → (c : Inside) → AllStand in_loop n (told_part p a c).stmts m
  told_in_place tree.no_statement c = none_stands
  told_in_place (tree.a_statement s r) c = then_stand (told_in_place s c) (told_in_place r _)
  told_in_place (tree.declared_locals {l = l} h are r) c = then_stand (told_as (told_locals l c) (locals_stand are c)) (told_in_place r _)
  told_in_place (tree.a_block {more = more} h r) c = told_as (told_block more c) (alone_stands (block_stands (told_in_place r (inner c))))
  told_in_place (tree.no_block h s) c = told_in_place s c
  told_in_place (tree.a_braced_body {more = more} r) c = told_as (told_block more c) (alone_stands (block_stands (told_in_place r (inner c))))
  told_in_place (tree.a_plain_body h s) c = told_in_place s c
  told_in_place tree.an_empty c = told_as (told_empty c) (alone_stands (block_stands none_stands))
  told_in_place (tree.a_simple {a = a} s) c = told_as (told_simple _ a c) (alone_stands (item_stands _ refl (act_is_simple c.context a)))
  told_in_place (tree.a_return {a = a} room e) c = told_as (told_return _ a c) (alone_stands (item_stands _ refl (return_is_simple c a)))
  told_in_place (tree.a_break {p = p}) c = told_as (told_break p c) (alone_stands break_stands)
  told_in_place (tree.a_continue {p = p}) c = told_as (told_continue p c) (alone_stands continue_stands)
  told_in_place (tree.an_if {c = e} {x = x} room whole s) c = told_as (told_if _ e x.stmt c) (alone_stands (if_stands _ refl refl (single_stands _ (told_in_place s c))))
  told_in_place (tree.an_else {c = e} {x = x} {y = y} room whole s closed r) c =
      told_as (told_else _ e x.stmt y.stmt c) (alone_stands (else_stands _ refl refl (single_stands _ (told_in_place s c)) (single_stands _ (told_in_place r (left c (told x.stmt c).behind)))))
  told_in_place (tree.a_while {c = e} {a = a} room whole s) c = told_as (told_while _ e a.stmt c) (alone_stands (while_stands _ refl refl (single_stands _ (told_in_place s c))))
  told_in_place (tree.a_do {c = e} {a = a} s room whole) c = told_as (told_do a.stmt _ e c) (alone_stands (do_stands _ refl refl (single_stands _ (told_in_place s c))))
  told_in_place (tree.a_for {f = f} {c = e} {g = g} {a = a} first room ask step s) c =
      let h : ForHead = record { first = f; item = e.item; condition = e.what; step = g } in
      let begun : Inside = (a_first (inner c) f).behind in
      told_as (told_for h a.stmt c)
      (alone_stands (for_stands _ (begun_in_head first (inner c)) (condition_number ask begun) (asks_in_head ask begun) (step_in_head step begun) (single_stands _ (told_in_place s begun))))

  -- the items of a body
  pub body_stands : {d n m : ℕ} {all : List Stmt} → IsTree words Statements false d n all m → (c : Inside) → AllStand false n (all_told all c).stmts m
  body_stands s c = told_in_place s c
