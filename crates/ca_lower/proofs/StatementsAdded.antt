-- What code that is added for statements is right for.
use Rattle.std.proofs.Common.{◌≡◌, ℕ, ◌+◌, ◌<◌, Bool, true, List, [], ◌∷◌, length, drop, get_or, Option, Some, None, refl, sym, ap, ◌∙◌, subst, arith}
use Rattle.ca_model.specs.declared.tree.Item.{Item}
use Rattle.ca_model.specs.declared.tree.Stmt.{Stmt, out-Stmt}
use Rattle.ca_model.specs.declared.tree.Stmt.TheVariants as st
use Rattle.ca_model.specs.Sites.{items_in, items_in_all}
use Rattle.ca_flow.specs.declared.instr.NodeId.{NodeId}
use Rattle.ca_flow.specs.declared.instr.Step.{Step}
use Rattle.ca_lower.specs.declared.builder.Builder.{Builder}
use Rattle.ca_lower.specs.declared.statements.Ways.{Ways}
use Rattle.ca_lower.specs.Scopes.{InFunction, InItem}
use Rattle.ca_lower.specs.Lowered.{Works, Chooses, Marks, Runs}
use Rattle.ca_lower.specs.Building.{code_in, code_at, Grows}
use Rattle.ca_lower.specs.Control.{RunAll, no_more, one_more, RunElse, without, with, RunStep, Turns, RunLoop, AddsRuns, RunsFrom, HaveSites}
use Rattle.ca_tables.proofs.CountedItems.{from_next}
use Rattle.ca_lower.proofs.Growing.{grows_on}
use Rattle.ca_lower.proofs.Turning.{at_item, have_kept, have_both}
use Rattle.ca_lower.proofs.CodeOfControl.{runs_item, runs_block, runs_if, runs_while, runs_do, runs_for, runs_break, runs_continue}

module _ (x : InFunction) (g : List Step) (width : ℕ) where
  abbrev WorksAt : InItem → ℕ → ℕ → Type 0
  WorksAt y n j = Works (code_at y) g y.function.locals width n j y.item

  abbrev MarksAt : InItem → ℕ → ℕ → Type 0
  MarksAt y j next = Marks (code_at y) g y.function.locals width ((code_at y).saves_after y.item.id) j next

  abbrev ChoosesAt : InItem → ℕ → ℕ → ℕ → Type 0
  ChoosesAt y n one other = Chooses (code_at y) g y.function.locals width n one other y.item

  abbrev RunsAt : Bool → ℕ → ℕ → ℕ → ℕ → Stmt → Type 0
  RunsAt in_loop n next leave again s = Runs (code_in x) g x.function.locals width in_loop n next leave again s

  pub item_runs : (y : InItem) (in_loop : Bool) (n j next leave again : ℕ) (s : Stmt) (i : Item) → y ≡ at_item x i → s ≡ st.Item i → WorksAt y n j → MarksAt y j next → RunsAt in_loop n next leave again s
  item_runs y in_loop n j next leave again s i same is works marks =
      runs_item (code_in x) g x.function.locals width in_loop n j next leave again s i ((code_in x).saves_after i.id) (ap out-Stmt is ∙ st.outs-Item i) refl
      (subst (λ y. WorksAt y n j) same works) (subst (λ y. MarksAt y j next) same marks)

  pub block_runs : (in_loop : Bool) (n next leave again : ℕ) (s : Stmt) (ss inner : List Stmt) → s ≡ st.Block ss → inner ≡ ss → RunAll (code_in x) g x.function.locals width in_loop n next leave again inner → RunsAt in_loop n next leave again s
  block_runs in_loop n next leave again s ss inner is same all =
      runs_block (code_in x) g x.function.locals width in_loop n next leave again s inner (ap out-Stmt (is ∙ ap (λ (ss : List Stmt). st.Block ss) (sym same)) ∙ st.outs-Block inner) all

  pub if_runs : (y : InItem) (in_loop : Bool) (n j j' one other next leave again : ℕ) (s a inner : Stmt) (c : Item) (no' : Option Stmt) → y ≡ at_item x c → s ≡ st.If c a no' → inner ≡ a
      → ChoosesAt y n j j' → MarksAt y j one → MarksAt y j' other → RunsAt in_loop one next leave again inner → RunElse (code_in x) g x.function.locals width in_loop other next leave again no' → RunsAt in_loop n next leave again s
  if_runs y in_loop n j j' one other next leave again s a inner c no' same is is' chooses marks marks' first second =
      runs_if (code_in x) g x.function.locals width in_loop n j j' one other next leave again s c inner no' ((code_in x).saves_after c.id)
      (ap out-Stmt (is ∙ ap (λ (a : Stmt). st.If c a no') (sym is')) ∙ st.outs-If c inner no') refl
      (subst (λ y. ChoosesAt y n j j') same chooses) (subst (λ y. MarksAt y j one) same marks) (subst (λ y. MarksAt y j' other) same marks') first second

  pub while_runs : (in_loop : Bool) (t begin next leave again : ℕ) (s a inner : Stmt) (c : Item) → s ≡ st.While c a → inner ≡ a → RunLoop (code_in x) g x.function.locals width t begin next c inner None → RunsAt in_loop t next leave again s
  while_runs in_loop t begin next leave again s a inner c is is' loop =
      runs_while (code_in x) g x.function.locals width in_loop t begin next leave again s c inner (ap out-Stmt (is ∙ ap (st.While c) (sym is')) ∙ st.outs-While c inner) loop

  pub do_runs : (in_loop : Bool) (t begin next leave again : ℕ) (s a inner : Stmt) (c : Item) → s ≡ st.Do a c → inner ≡ a → RunLoop (code_in x) g x.function.locals width t begin next c inner None → RunsAt in_loop begin next leave again s
  do_runs in_loop t begin next leave again s a inner c is is' loop =
      runs_do (code_in x) g x.function.locals width in_loop t begin next leave again s c inner (ap out-Stmt (is ∙ ap (λ (a : Stmt). st.Do a c) (sym is')) ∙ st.outs-Do inner c) loop

  pub for_runs : (in_loop : Bool) (n t begin next leave again : ℕ) (s a inner : Stmt) (first step : Option Item) (c : Item) → s ≡ st.For first c step a → inner ≡ a → RunStep (code_in x) g x.function.locals width n t first
      → RunLoop (code_in x) g x.function.locals width t begin next c inner step → RunsAt in_loop n next leave again s
  for_runs in_loop n t begin next leave again s a inner first step c is is' start loop =
      runs_for (code_in x) g x.function.locals width in_loop n t begin next leave again s first c step inner (ap out-Stmt (is ∙ ap (λ (a : Stmt). st.For first c step a) (sym is')) ∙ st.outs-For first c step inner) start loop

  pub break_runs : (in_loop : Bool) (n next again : ℕ) (s : Stmt) → in_loop ≡ true → s ≡ st.Break → RunsAt in_loop n next n again s
  break_runs in_loop n next again s yes' is = subst (λ b. RunsAt b n next n again s) (sym yes') (runs_break (code_in x) g x.function.locals width n next again s (ap out-Stmt is ∙ st.outs-Break))

  pub continue_runs : (in_loop : Bool) (n next leave : ℕ) (s : Stmt) → in_loop ≡ true → s ≡ st.Continue → RunsAt in_loop n next leave n s
  continue_runs in_loop n next leave s yes' is = subst (λ b. RunsAt b n next leave n s) (sym yes') (runs_continue (code_in x) g x.function.locals width n next leave s (ap out-Stmt is ∙ st.outs-Continue))

  pub no_else : (in_loop : Bool) (n leave again : ℕ) (o : Option Stmt) → o ≡ None → RunElse (code_in x) g x.function.locals width in_loop n n leave again o
  no_else in_loop n leave again o is = subst (RunElse (code_in x) g x.function.locals width in_loop n n leave again) (sym is) without

  pub an_else : (in_loop : Bool) (n next leave again : ℕ) (o : Option Stmt) (s inner : Stmt) → o ≡ Some s → inner ≡ s → RunsAt in_loop n next leave again inner → RunElse (code_in x) g x.function.locals width in_loop n next leave again o
  an_else in_loop n next leave again o s inner is same runs =
      subst (RunElse (code_in x) g x.function.locals width in_loop n next leave again) (sym (is ∙ ap Some (sym same))) (with runs)

  pub loop_runs : (y : InItem) (t begin next : ℕ) (step : ℕ) (c : Item) (body : Stmt) (o : Option Item) → y ≡ at_item x c → Turns (code_at y) g y.function.locals width t begin next y.item → RunsAt true begin step next step body
      → RunStep (code_in x) g x.function.locals width step t o → RunLoop (code_in x) g x.function.locals width t begin next c body o
  loop_runs y t begin next step c body o same turn runs steps = record {
    step = step;
    turn = subst (λ y. Turns (code_at y) g y.function.locals width t begin next y.item) same turn;
    runs_body = runs;
    steps = steps;
  }

-- ---- statements, from the last to the first

pub none_run : (x : InFunction) (b : Builder) (w : Ways) (k : ℕ) (ss : List Stmt) → drop k ss ≡ [] → w.next.0 < length b.steps.items → Grows x b b → HaveSites x b.steps.items [] → RunsFrom x b b w.next.0 w k ss
none_run x b w k ss none' entry grows sites = record {
  adds = λ g width le stands. subst (RunAll (code_in x) g x.function.locals width w.in_loop w.next.0 w.next.0 w.leave.0 w.again.0) (sym none') no_more;
  grows = grows;
  entry = entry;
  sites = subst (λ (ys : List Stmt). HaveSites x b.steps.items (items_in_all ys)) (sym none') sites;
}

pub one_more_run : (x : InFunction) (old mid new : Builder) (n : ℕ) (j : NodeId) (w : Ways) (k k' : ℕ) (ss : List Stmt) (s : Stmt) → k' ≡ k + 1 → k < length ss → s ≡ get_or ss k s → RunsFrom x old mid j.0 w k' ss
    → AddsRuns x new n (record { in_loop = w.in_loop; next = j; leave = w.leave; again = w.again }) s → Grows x mid new → n < length new.steps.items → HaveSites x new.steps.items (items_in s) → RunsFrom x old new n w k ss
one_more_run x old mid new n j w k k' ss s after lt is from runs grows entry sites =
    let next' : drop k ss ≡ s ∷ drop k' ss = from_next ss k s lt is ∙ ap (λ i. s ∷ drop i ss) (sym after) in
    record {
      adds = λ g width le stands.
          subst (RunAll (code_in x) g x.function.locals width w.in_loop n w.next.0 w.leave.0 w.again.0) (sym next')
          (one_more (runs g width le stands) (from.adds g width (omega (arith, le, grows.registers)) (grows.stands g stands)));
      grows = grows_on x old mid new from.grows grows;
      entry = entry;
      sites = subst (λ (ys : List Stmt). HaveSites x new.steps.items (items_in_all ys)) (sym next')
          (have_both x new.steps.items (items_in s) (items_in_all (drop k' ss)) sites (have_kept x mid new (items_in_all (drop k' ss)) grows from.sites));
    }
