-- Declarations of locals in which nothing is wrong: each item keeps within bounds, and so does what is visible behind them.
use Rattle.std.proofs.Common.{◌≡◌, ◌≤◌, ◌<◌, ℕ, ◌+◌, Bool, true, false, List, [], ◌∷◌, ◌++◌, Option, Some, None, arith, refl}
use Rattle.std.specs.Prelude.{nat_lt, IfSome, if◌then◌else◌}
use Rattle.std.specs.Option.{is_some}
use Rattle.std.specs.Str.{bytes_eq}
use Rattle.ca_tree.specs.declared.text.Pos.{Pos}
use Rattle.ca_tree.specs.declared.tree.Name.{Name}
use Rattle.ca_tree.specs.declared.tree.Base.{Base}
use Rattle.ca_tree.specs.declared.tree.Right.{Right}
use Rattle.ca_tree.specs.declared.tree.LocalDeclarator.{LocalDeclarator}
use Rattle.ca_tree.specs.declared.tree.ThreadLocal.{ThreadLocal}
use Rattle.ca_tree.specs.declared.tree.Locals.{Locals}
use Rattle.ca_tree.specs.TreeWords.{Words}
use Rattle.ca_tree.specs.PhraseTrees.{IsRight}
use Rattle.ca_tree.specs.StatementTrees.{IsLocal, MoreLocals, MoreThreads, IsLocals}
use Rattle.ca_tree.specs.StatementTrees as tree
use Rattle.ca_model.specs.declared.tree.Item.{Item}
use Rattle.ca_model.specs.declared.tree.Stmt.{Stmt as TypedStmt}
use Rattle.ca_model.specs.declared.types.TypeFault.{TypeFault}
use Rattle.ca_model.specs.declared.types.ObjectType.{ObjectType}
use Rattle.ca_model.specs.declared.types.Meaning.TheVariants as means
use Rattle.ca_model.specs.Codes.{Typed}
use Rattle.ca_model.specs.typing.Faults.{given}
use Rattle.ca_model.specs.typing.Types.{thread}
use Rattle.ca_model.specs.typing.Scopes.{find}
use Rattle.ca_model.specs.typing.TypeNames.{written_type, type_faults}
use Rattle.ca_model.specs.typing.RightSides.{right_faults}
use Rattle.ca_model.specs.typing.Bodies.{Inside, Told, nothing, and_then, in_order}
use Rattle.ca_model.specs.typing.Locals.{with_locals, most_locals, declared, local_aim, first_act, a_local, a_thread, some_locals}
use Rattle.ca_model.specs.typing.Statements.{plain}
use Rattle.ca_model.proofs.DeclaredLocals.{one_more_where}
use Rattle.ca_model.proofs.MissingAnswers.{if_found}
use Rattle.ca_model.proofs.TypesThere.{type_there}
use Rattle.ca_model.proofs.EmptyFaults.{none_in}
use Rattle.ca_model.proofs.ActBounds.{GoodAct}
use Rattle.ca_model.proofs.Surroundings.{Means, Surrounds, Fine, surrounds, fine_more}
use Rattle.ca_model.proofs.ActsFit.{good_right}
use Rattle.ca_model.proofs.EachItem.{EachOf, each_of_none, each_of_both, each_of_item}

module _ (t : Typed) where
  abbrev pub GoodItem : ℕ → Item → Type 0
  GoodItem n i = GoodAct t n i.act

  -- what is told keeps within bounds, where the function has as many locals as there are behind it, or more
  pub record Well (c : Inside) (x : Told) : Type 0 where
    pub rises : c.count ≤ x.behind.count
    pub fine : Fine t x.behind
    pub items : (n : ℕ) → x.behind.count ≤ n → EachOf (GoodItem n) x.stmts

  -- where nothing is wrong in it
  abbrev pub Tells : Inside → Told → Type 0
  Tells c x = x.faults ≡ [] → Well c x

  pub nothing_tells : (c : Inside) → Fine t c → Tells c (nothing c)
  nothing_tells c h none = record { rises = omega arith; fine = h; items = λ n le. each_of_none (GoodItem n) }

  pub plain_tells : (c : Inside) (x : TypedStmt) (fs : List TypeFault) → Fine t c → ((n : ℕ) → c.count ≤ n → fs ≡ [] → EachOf (GoodItem n) (x ∷ [])) → Tells c (plain c x fs)
  plain_tells c x fs h each none = record { rises = omega arith; fine = h; items = λ n le. each n le none }

  pub then_at : (c : Inside) (x : Told) (f : Inside → Told) → Tells c x → (Well c x → Tells x.behind (f x.behind)) → Tells c (and_then x f)
  then_at c x f h more none =
      let parts = none_in x.faults (f x.behind).faults none in
      let w = h parts.0 in
      let v = more w parts.1 in
      record {
        rises = let a = w.rises in let b = v.rises in omega arith;
        fine = v.fine;
        items = λ n le. each_of_both (GoodItem n) x.stmts (f x.behind).stmts (w.items n (let b = v.rises in omega arith)) (v.items n le);
      }

  pub then_tells : (c : Inside) (x : Told) (f : Inside → Told) → Tells c x → ((d : Inside) → Fine t d → Tells d (f d)) → Tells c (and_then x f)
  then_tells c x f h more = then_at c x f h (λ w. more x.behind w.fine)

  -- ---- a local behind its declarator

  declared_by : (b : Bool) (c : Inside) (x : Name) (u : Option ObjectType) → Fine t c → is_some u ≡ true
      → Fine t (if b then with_locals c ((x.text, means.Local (record { 0 = c.count }) u) ∷ c.context.scope.locals) (c.count + 1) else c)
  declared_by true c x u h typed = record {
    globals = h.globals;
    locals = λ y.
        if_found (Means t (c.count + 1) c.context.functions c.context.defined y) (bytes_eq y x.text) (means.Local (record { 0 = c.count }) u) (find y c.context.scope.locals)
        (omega arith, typed) ((fine_more t c (c.count + 1) h (omega arith)).locals y);
    fields = h.fields;
  }
  declared_by false c x u h typed = h

  pub declared_fine : (c : Inside) (x : Name) (u : Option ObjectType) → Fine t c → is_some u ≡ true → Fine t (declared c x u)
  declared_fine c x u h typed = declared_by (nat_lt c.count most_locals) c x u h typed

  module _ (words : Words) where
    first_good : (n : ℕ) (c : Inside) (u : Option ObjectType) (r : Option Right) → Surrounds t n c.context → c.count < n → IfSome r (IsRight words) → given r (right_faults c.context (local_aim c u)) ≡ [] → GoodAct t n (first_act c u r)
    first_good n c u None here lt h none = lt
    first_good n c u (Some r) here lt h none = good_right t n words c.context here (local_aim c u) r h lt none

    pub local_tells : {b : Base} {n : ℕ} {p : Pos} {d : LocalDeclarator} → IsLocal words b n p d → (c : Inside) → Fine t c → Tells c (a_local b c d)
    local_tells {b = b} (tree.a_local {k = k} {x = x} {r = r} room star name value) c h none =
        let u : Option ObjectType = written_type c.context.scope b k in
        let parts = none_in (type_faults c.context.scope b ++ given r (right_faults c.context (local_aim c u))) _ none in
        let first = none_in (type_faults c.context.scope b) (given r (right_faults c.context (local_aim c u))) parts.0 in
        let counted = one_more_where c x u parts.1 in
        record {
          rises = omega arith;
          fine = declared_fine c x u h (type_there c.context.scope b k first.0);
          items = λ i le. each_of_item (GoodItem i) _ (first_good i c u r (surrounds t i c h (omega arith)) (omega arith) value first.1);
        }

    thread_tells : (d : ThreadLocal) (c : Inside) → Fine t c → Tells c (a_thread c d)
    thread_tells d c h none =
        let counted = one_more_where c d.name (Some thread) none in
        record { rises = omega arith; fine = declared_fine c d.name (Some thread) h refl; items = λ i le. each_of_item (GoodItem i) _ (omega arith) }

    more_locals_tell : {b : Base} {n m : ℕ} {ds : List LocalDeclarator} → MoreLocals words b n ds m → (c : Inside) → Fine t c → Tells c (in_order (a_local b) ds c)
    more_locals_tell tree.no_local c h = nothing_tells c h
    more_locals_tell {b = b} (tree.one_local {d = d} {more = ds} l at more) c h = then_tells c (a_local b c d) (in_order (a_local b) ds) (local_tells l c h) (λ e i. more_locals_tell more e i)

    more_threads_tell : {n m : ℕ} {ds : List ThreadLocal} → MoreThreads words n ds m → (c : Inside) → Fine t c → Tells c (in_order a_thread ds c)
    more_threads_tell tree.no_thread c h = nothing_tells c h
    more_threads_tell (tree.one_thread {more = ds} room name more) c h = then_tells c _ (in_order a_thread ds) (thread_tells _ c h) (λ e i. more_threads_tell more e i)

    pub locals_tell : {n m : ℕ} {l : Locals} → IsLocals words n l m → (c : Inside) → Fine t c → Tells c (some_locals l c)
    locals_tell (tree.threads {more = ds} room name more) c h = then_tells c _ (in_order a_thread ds) (thread_tells _ c h) (λ e i. more_threads_tell more e i)
    locals_tell (tree.variables {b = b} {d = d} {more = ds} of l more) c h = then_tells c (a_local b c d) (in_order (a_local b) ds) (local_tells l c h) (λ e i. more_locals_tell more e i)
