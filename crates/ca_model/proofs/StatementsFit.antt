-- Statements in which nothing is wrong: each of their items keeps within bounds, and locals are numbered on.
use Rattle.std.proofs.Common.{◌≡◌, ◌≤◌, ℕ, Bool, false, List, [], ◌∷◌, ◌++◌, length, Option, Some, None, arith, sym, subst}
use Rattle.std.specs.Prelude.{pos, IfSome, All}
use Rattle.std.proofs.lemmas.List.Elements.{All-head}
use Rattle.ca_tree.specs.declared.tree.Exp.{Exp}
use Rattle.ca_tree.specs.declared.tree.Simple.{Simple}
use Rattle.ca_tree.specs.declared.tree.ItemAt.{ItemAt}
use Rattle.ca_tree.specs.declared.tree.ForFirst.{ForFirst}
use Rattle.ca_tree.specs.declared.tree.ForHead.{ForHead}
use Rattle.ca_tree.specs.declared.tree.Stmt.{Stmt}
use Rattle.ca_tree.specs.TreeWords.{Words}
use Rattle.ca_tree.specs.ExpressionTrees.{IsWhole}
use Rattle.ca_tree.specs.PhraseTrees.{IsSimple}
use Rattle.ca_tree.specs.StatementTrees.{Branch, Head, IsFirst, IsCondition, IsStep, Part, Unbraced, A_statement, A_body, Statements, Tree, IsTree}
use Rattle.ca_tree.specs.StatementTrees as tree
use Rattle.ca_model.specs.declared.tree.Item.{Item}
use Rattle.ca_model.specs.declared.tree.Stmt.TheVariants as s
use Rattle.ca_model.specs.Codes.{Typed}
use Rattle.ca_model.specs.typing.Faults.{given}
use Rattle.ca_model.specs.typing.Uses.{value_in}
use Rattle.ca_model.specs.typing.SimpleStatements.{simple_faults, simple_act}
use Rattle.ca_model.specs.typing.Bodies.{Inside, Told, inner, left}
use Rattle.ca_model.specs.typing.Locals.{item, some_locals}
use Rattle.ca_model.specs.typing.Statements.{plain, condition_faults, condition_or_one, return_faults, value_if_there, an_if, a_while, a_do, a_first, item_of, a_step, a_for, a_block, told, all_told}
use Rattle.ca_model.proofs.Equations.{items_item}
use Rattle.ca_model.proofs.ToldStatements.{told_block, told_locals, told_empty, told_simple, told_return, told_break, told_continue, told_if, told_else, told_while, told_do, told_for}
use Rattle.ca_model.proofs.ExpressionBounds.{fits_num}
use Rattle.ca_model.proofs.EmptyFaults.{none_in}
use Rattle.ca_model.proofs.ActBounds.{GoodExp, GoodAct}
use Rattle.ca_model.proofs.Surroundings.{Fine, surrounds, fine_inner, fine_left}
use Rattle.ca_model.proofs.ActsFit.{good_value, good_simple}
use Rattle.ca_model.proofs.EachItem.{EachOf, each_of_none, each_of_item, each_of_block, each_of_break, each_of_continue, each_of_if, each_of_else, each_of_while, each_of_do, each_of_for}
use Rattle.ca_model.proofs.LocalsFit.{GoodItem, Well, Tells, nothing_tells, plain_tells, then_tells, local_tells, locals_tell}

only_item : (G : Item → Type 0) (i : Item) → EachOf G (s.Item i ∷ []) → G i
only_item G i h = All-head G i [] (subst (λ is. All G (is ++ [])) (items_item i) h)

module _ (t : Typed) (words : Words) where
  told_as : (c : Inside) (x y : Told) → x ≡ y → Tells t c y → Tells t c x
  told_as c x y is h = subst (Tells t c) (sym is) h

  -- ---- each kind of statement, by its parts

  value_good : (n : ℕ) (c : Inside) (a : Exp) → Fine t c → c.count ≤ n → IsWhole words a → GoodExp t n (value_in c.context.scope a)
  value_good n c a h le whole = good_value t n words c.context (surrounds t n c h le) a whole

  block_tells : (c : Inside) (x : Told) → Fine t c → Tells t (inner c) x → Tells t c (a_block c x)
  block_tells c x h inside none =
      let w = inside none in
      record { rises = w.rises; fine = fine_left t c x.behind h w.rises; items = λ n le. each_of_block (GoodItem t n) x.stmts (w.items n le) }

  simple_tells : (c : Inside) (i : ItemAt) (a : Simple) → Fine t c → IsSimple words a → Tells t c (plain c (s.Item (item i (simple_act c.context a))) (simple_faults c.context i.pos a))
  simple_tells c i a h is = plain_tells t c _ _ h (λ n le none. each_of_item (GoodItem t n) _ (good_simple t n words c.context (surrounds t n c h le) i.pos a is none))

  return_good : (n : ℕ) (c : Inside) (a : Option Exp) → Fine t c → c.count ≤ n → IfSome a (IsWhole words) → GoodAct t n (value_if_there c a)
  return_good n c None h le whole = tt
  return_good n c (Some a) h le whole = value_good n c a h le whole

  return_tells : (c : Inside) (i : ItemAt) (a : Option Exp) → Fine t c → IfSome a (IsWhole words) → Tells t c (plain c (s.Item (item i (value_if_there c a))) (return_faults c i.pos a))
  return_tells c i a h whole = plain_tells t c _ _ h (λ n le none. each_of_item (GoodItem t n) _ (return_good n c a h le whole))

  if_tells : (c : Inside) (i : ItemAt) (a : Exp) (x : Told) → Fine t c → IsWhole words a → Tells t c x → Tells t c (an_if c i a x None)
  if_tells c i a x h whole body none =
      let parts = none_in (condition_faults c a ++ x.faults) [] none in
      let w = body (none_in (condition_faults c a) x.faults parts.0).1 in
      let rises = w.rises in
      record {
        rises = rises;
        fine = fine_left t c x.behind h rises;
        items = λ n le. each_of_if (GoodItem t n) _ x.stmts (value_good n c a h (omega arith) whole) (w.items n le);
      }

  else_tells : (c : Inside) (i : ItemAt) (a : Exp) (x : Told) (f : Inside → Told) → Fine t c → IsWhole words a → Tells t c x → ((d : Inside) → Fine t d → Tells t d (f d)) → Tells t c (an_if c i a x (Some (f (left c x.behind))))
  else_tells c i a x f h whole body more none =
      let parts = none_in (condition_faults c a ++ x.faults) (f (left c x.behind)).faults none in
      let w = body (none_in (condition_faults c a) x.faults parts.0).1 in
      let rises = w.rises in
      let v = more (left c x.behind) (fine_left t c x.behind h rises) parts.1 in
      let on : x.behind.count ≤ (f (left c x.behind)).behind.count = v.rises in
      let all : c.count ≤ (f (left c x.behind)).behind.count = omega arith in
      record {
        rises = all;
        fine = fine_left t c (f (left c x.behind)).behind h all;
        items = λ n le.
            each_of_else (GoodItem t n) _ x.stmts (f (left c x.behind)).stmts (value_good n c a h (omega arith) whole) (w.items n (omega arith)) (v.items n le);
      }

  while_tells : (c : Inside) (i : ItemAt) (a : Exp) (x : Told) → Fine t c → IsWhole words a → Tells t c x → Tells t c (a_while c i a x)
  while_tells c i a x h whole body none =
      let w = body (none_in (condition_faults c a) x.faults none).1 in
      let rises = w.rises in
      record {
        rises = rises;
        fine = fine_left t c x.behind h rises;
        items = λ n le. each_of_while (GoodItem t n) _ x.stmts (value_good n c a h (omega arith) whole) (w.items n le);
      }

  do_tells : (c : Inside) (i : ItemAt) (a : Exp) (x : Told) → Fine t c → IsWhole words a → Tells t c x → Tells t c (a_do c x i a)
  do_tells c i a x h whole body none =
      let w = body (none_in x.faults (condition_faults c a) none).0 in
      let rises = w.rises in
      record {
        rises = rises;
        fine = fine_left t c x.behind h rises;
        items = λ n le. each_of_do (GoodItem t n) x.stmts _ (w.items n le) (value_good n c a h (omega arith) whole);
      }

  -- ---- the head of a `for`

  begun_tells : {n m : ℕ} {f : Option ForFirst} → IsFirst words n f m → (c : Inside) → Fine t c → Tells t c (a_first c f)
  begun_tells tree.nothing_first c h = nothing_tells t c h
  begun_tells (tree.simple_first {a = a} is) c h = simple_tells c _ a h is.is_simple
  begun_tells (tree.local_first base l) c h = local_tells t words l c h

  first_good : {n m : ℕ} {f : Option ForFirst} → IsFirst words n f m → (c : Inside) → Well t c (a_first c f) → (k : ℕ) → (a_first c f).behind.count ≤ k → IfSome (item_of (a_first c f).stmts) (GoodItem t k)
  first_good tree.nothing_first c w k le = tt
  first_good (tree.simple_first is) c w k le = only_item (GoodItem t k) _ (w.items k le)
  first_good (tree.local_first base (tree.a_local room star name value)) c w k le = only_item (GoodItem t k) _ (w.items k le)

  condition_good : {m : ℕ} {a : Head (Option Exp)} → IsCondition words m a → (n : ℕ) (c : Inside) → Fine t c → c.count ≤ n → GoodItem t n (condition_or_one c a.item a.what)
  condition_good tree.no_condition n c h le = fits_num n (length t.globals) 64 (pos 1) (omega arith)
  condition_good (tree.a_condition {c = a} whole) n c h le = value_good n c a h le whole

  step_good : {m i : ℕ} {g : Option (ItemAt × Simple)} → IsStep words m g i → (n : ℕ) (c : Inside) → Fine t c → c.count ≤ n → given g (λ x. simple_faults c.context x.0.pos x.1) ≡ [] → IfSome (a_step c g) (GoodItem t n)
  step_good tree.no_step n c h le none = tt
  step_good (tree.a_step {a = a} is) n c h le none = good_simple t n words c.context (surrounds t n c h le) _ a is.is_simple none

  for_tells : (c : Inside) (h : ForHead) (begun : Told) (body : Inside → Told) → Fine t c → Tells t (inner c) begun
      → (Well t (inner c) begun → (n : ℕ) → begun.behind.count ≤ n → IfSome (item_of begun.stmts) (GoodItem t n))
      → ((n : ℕ) (d : Inside) → Fine t d → d.count ≤ n → GoodItem t n (condition_or_one d h.item h.condition))
      → ((n : ℕ) (d : Inside) → Fine t d → d.count ≤ n → given h.step (λ x. simple_faults d.context x.0.pos x.1) ≡ [] → IfSome (a_step d h.step) (GoodItem t n))
      → ((d : Inside) → Fine t d → Tells t d (body d)) → Tells t c (a_for c h begun body)
  for_tells c h begun body fine first one ask step more none =
      let all = none_in (begun.faults ++ given h.condition (condition_faults begun.behind) ++ given h.step (λ x. simple_faults begun.behind.context x.0.pos x.1)) (body begun.behind).faults none in
      let three = none_in (begun.faults ++ given h.condition (condition_faults begun.behind)) (given h.step (λ x. simple_faults begun.behind.context x.0.pos x.1)) all.0 in
      let w = first (none_in begun.faults (given h.condition (condition_faults begun.behind)) three.0).0 in
      let v = more begun.behind w.fine all.1 in
      let begins : c.count ≤ begun.behind.count = w.rises in
      let rises = v.rises in
      record {
        rises = omega arith;
        fine = fine_left t c (body begun.behind).behind fine (omega arith);
        items = λ n le.
            each_of_for (GoodItem t n) (item_of begun.stmts) _ (a_step begun.behind h.step) (body begun.behind).stmts (one w n (omega arith)) (ask n begun.behind w.fine (omega arith))
            (step n begun.behind w.fine (omega arith) three.1) (v.items n le);
      }

  -- ---- all statements

  abbrev part_told : (p : Part) → Tree p → Inside → Told
  part_told Unbraced a = told a.stmt
  part_told A_statement a = told a.stmt
  part_told A_body a = told a.stmt
  part_told Statements xs = all_told xs

  part_tells : {p : Part} {in_loop : Bool} {d n : ℕ} {a : Tree p} {m : ℕ} → IsTree words p in_loop d n a m → (c : Inside) → Fine t c → Tells t c (part_told p a c)
  part_tells tree.no_statement c h = nothing_tells t c h
  part_tells (tree.a_statement {a = a} {more = more} x r) c h = then_tells t c (told a.stmt c) (all_told more) (part_tells x c h) (λ e i. part_tells r e i)
  part_tells (tree.declared_locals {l = l} {more = more} deep are r) c h =
      then_tells t c (told _ c) (all_told more) (told_as c _ (some_locals l c) (told_locals l c) (locals_tell t words are c h)) (λ e i. part_tells r e i)
  part_tells (tree.a_block {more = more} deep r) c h = told_as c _ _ (told_block more c) (block_tells c (all_told more (inner c)) h (part_tells r (inner c) (fine_inner t c h)))
  part_tells (tree.no_block deep x) c h = part_tells x c h
  part_tells (tree.a_braced_body {more = more} r) c h = told_as c _ _ (told_block more c) (block_tells c (all_told more (inner c)) h (part_tells r (inner c) (fine_inner t c h)))
  part_tells (tree.a_plain_body deep x) c h = part_tells x c h
  part_tells tree.an_empty c h = told_as c _ _ (told_empty c) (plain_tells t c _ _ h (λ n le none. each_of_block (GoodItem t n) [] (each_of_none (GoodItem t n))))
  part_tells (tree.a_simple {a = a} is) c h = told_as c _ _ (told_simple _ a c) (simple_tells c _ a h is.is_simple)
  part_tells (tree.a_return {a = a} room whole) c h = told_as c _ _ (told_return _ a c) (return_tells c _ a h whole)
  part_tells (tree.a_break {p = p}) c h = told_as c _ _ (told_break p c) (plain_tells t c _ _ h (λ n le none. each_of_break (GoodItem t n)))
  part_tells (tree.a_continue {p = p}) c h = told_as c _ _ (told_continue p c) (plain_tells t c _ _ h (λ n le none. each_of_continue (GoodItem t n)))
  part_tells (tree.an_if {c = e} {x = x} room whole r) c h = told_as c _ _ (told_if _ e x.stmt c) (if_tells c _ e (told x.stmt c) h whole (part_tells r c h))
  part_tells (tree.an_else {c = e} {x = x} {y = y} room whole r closed q) c h =
      told_as c _ _ (told_else _ e x.stmt y.stmt c) (else_tells c _ e (told x.stmt c) (told y.stmt) h whole (part_tells r c h) (λ d i. part_tells q d i))
  part_tells (tree.a_while {c = e} {a = a} room whole r) c h = told_as c _ _ (told_while _ e a.stmt c) (while_tells c _ e (told a.stmt c) h whole (part_tells r c h))
  part_tells (tree.a_do {c = e} {a = a} r room whole) c h = told_as c _ _ (told_do a.stmt _ e c) (do_tells c _ e (told a.stmt c) h whole (part_tells r c h))
  part_tells (tree.a_for {f = f} {c = e} {g = g} {a = a} first room ask step r) c h =
      let head : ForHead = record { first = f; item = e.item; condition = e.what; step = g } in
      told_as c _ _ (told_for head a.stmt c)
      (for_tells c head (a_first (inner c) f) (told a.stmt) h (begun_tells first (inner c) (fine_inner t c h)) (first_good first (inner c)) (λ n d. condition_good ask n d) (λ n d. step_good step n d) (λ d i. part_tells r d i))

  -- the statements of a body
  pub body_tells : {d n m : ℕ} {all : List Stmt} → IsTree words Statements false d n all m → (c : Inside) → Fine t c → Tells t c (all_told all c)
  body_tells r c h = part_tells r c h
