use Rattle.std.proofs.Common.{rules, ◌-◌, List, [], ◌∷◌, sym, ap, ◌∙◌, arith}
use Rattle.std.proofs.lemmas.List.{drop_all}
use Rattle.ca_model.specs.declared.tree.Stmt.{Stmt}
use Rattle.ca_model.specs.declared.tree.Stmt.TheVariants as st
use Rattle.ca_model.specs.declared.tree.Stmt.TheViews.{the_lemmas}
use Rattle.ca_lower.proofs.Growing.{grows_none, grows_on}
use Rattle.ca_lower.proofs.Turning.{have_none, have_both, have_kept, have_closed, grows_in, item_sites, opened_is, closes_in, loop_grows_in}
use Rattle.ca_lower.proofs.Placing.{block_there, if_there, while_there, do_there, for_there, break_there, continue_there, one_there, have_item, have_block, have_if, have_do, have_for}
use Rattle.ca_lower.proofs.StatementsAdded.{item_runs, block_runs, if_runs, while_runs, do_runs, for_runs, break_runs, continue_runs, no_else, an_else, loop_runs, none_run, one_more_run}
use Rattle.ca_lower.proofs.builder.Builder.+control.Goals as goal

pub run-run_all-requires : goal.run-run_all-requires
run-run_all-requires t c = (search (rules, the_lemmas), (block_there c.args.scope.now _ _ _ (c.in-Block.is ∙ ap (λ (xs : List Stmt). st.Block xs) (sym c.as_slice-inner.ensures)) c.requires.there, c.requires.ways))

pub run-run_else-requires : goal.run-run_else-requires
run-run_else-requires t c = (search (rules, the_lemmas), ((if_there c.args.scope.now _ _ _ _ _ c.in-If.is c.requires.there).2, c.requires.ways))

pub run-run-requires : goal.run-run-requires
run-run-requires t c =
    let l = c.in_ok-other-in-If.ensures.grows.longer in
    (search (rules, the_lemmas), ((if_there c.args.scope.now _ _ _ _ _ (c.in-If.is ∙ ap (λ (a : Stmt). st.If c.in-If.cond a c.in-If.no) (sym c.get-inner.ensures)) c.requires.there).1, (omega (arith, l, c.requires.ways.0), omega (arith, l, c.requires.ways.1), omega (arith, l, c.requires.ways.2))))

pub run-turn_loop-requires : goal.run-turn_loop-requires
run-turn_loop-requires t c = let p = while_there c.args.scope.now _ _ _ _ (c.in-While.is ∙ ap (st.While c.in-While.cond) (sym c.get-inner-in-While.ensures)) c.requires.there in (search (rules, the_lemmas), (p.1, (p.0, (tt, c.requires.ways.0))))

pub run-turn_loop-requires-in-Do : goal.run-turn_loop-requires-in-Do
run-turn_loop-requires-in-Do t c = let p = do_there c.args.scope.now _ _ _ _ (c.in-Do.is ∙ ap (λ (a : Stmt). st.Do a c.in-Do.cond) (sym c.get-inner-in-Do.ensures)) c.requires.there in (search (rules, the_lemmas), (p.1, (p.0, (tt, c.requires.ways.0))))

pub run-turn_loop-requires-in-For : goal.run-turn_loop-requires-in-For
run-turn_loop-requires-in-For t c = let p = for_there c.args.scope.now _ _ _ _ _ _ (c.in-For.is ∙ ap (λ (a : Stmt). st.For c.in-For.first c.in-For.cond c.in-For.step a) (sym c.get-inner-in-For.ensures)) c.requires.there in (search (rules, the_lemmas), (p.3, (p.1, (p.2, c.requires.ways.0))))

pub run-work_if_any-requires-clause-work : goal.run-work_if_any-requires-clause-work
run-work_if_any-requires-clause-work t c =
    (for_there c.args.scope.now _ _ _ _ _ _ c.in-For.is c.requires.there).0

pub run-returns-in_ok-start-in-Item-clause-adds : goal.run-returns-in_ok-start-in-Item-clause-adds
run-returns-in_ok-start-in-Item-clause-adds t c g width le stands =
    item_runs c.args.scope.now g width c.at-at.result _ _ _ _ _ _ _ c.in-Item.item c.at-at.ensures c.in-Item.is (c.in_ok-start-in-Item.ensures.adds g width le stands)
    (c.in_ok-after-in-Item.ensures.adds g width (c.in_ok-start-in-Item.ensures.grows.stands g stands))

pub run-returns-in_ok-start-in-Item-clause-grows : goal.run-returns-in_ok-start-in-Item-clause-grows
run-returns-in_ok-start-in-Item-clause-grows t c =
    grows_in _ _ _ _ _ c.at-at.ensures (grows_on _ _ _ _ c.in_ok-after-in-Item.ensures.grows c.in_ok-start-in-Item.ensures.grows)

pub run-returns-in_ok-start-in-Item-clause-sites : goal.run-returns-in_ok-start-in-Item-clause-sites
run-returns-in_ok-start-in-Item-clause-sites t c =
    have_item c.args.scope.now _ _ _ c.in-Item.is (item_sites c.args.scope.now _ _ _ c.at-at.ensures c.in_ok-start-in-Item.ensures.sites)

pub run-returns-in_ok-start-in-Block-clause-adds : goal.run-returns-in_ok-start-in-Block-clause-adds
run-returns-in_ok-start-in-Block-clause-adds t c g width le stands =
    block_runs c.args.scope.now g width _ _ _ _ _ _ _ _ c.in-Block.is c.as_slice-inner.ensures (c.in_ok-start-in-Block.ensures.adds g width le stands)

pub run-returns-in_ok-start-in-Block-clause-sites : goal.run-returns-in_ok-start-in-Block-clause-sites
run-returns-in_ok-start-in-Block-clause-sites t c =
    have_block c.args.scope.now _ _ _ (c.in-Block.is ∙ ap (λ (xs : List Stmt). st.Block xs) (sym c.as_slice-inner.ensures)) c.in_ok-start-in-Block.ensures.sites

pub run-returns-in_ok-start-in-If-clause-adds : goal.run-returns-in_ok-start-in-If-clause-adds
run-returns-in_ok-start-in-If-clause-adds t c g width le stands =
    let s1 = c.in_ok-start-in-If.ensures.grows.stands g stands in
    let s2 = c.in_ok-after_one-in-If.ensures.grows.stands g s1 in
    let s3 = c.in_ok-after_other-in-If.ensures.grows.stands g s2 in
    let s4 = c.in_ok-one-in-If.ensures.grows.stands g s3 in
    if_runs c.args.scope.now g width c.at-at-in-If.result _ _ _ _ _ _ _ _ _ _ _ _ c.in-If.cond c.in-If.no c.at-at-in-If.ensures c.in-If.is c.get-inner.ensures
    (c.in_ok-start-in-If.ensures.adds g width le stands) (c.in_ok-after_one-in-If.ensures.adds g width s1) (c.in_ok-after_other-in-If.ensures.adds g width s2)
    (c.in_ok-one-in-If.ensures.adds g width (omega (arith, le, c.in_ok-start-in-If.ensures.grows.registers, c.in_ok-after_one-in-If.ensures.grows.registers, c.in_ok-after_other-in-If.ensures.grows.registers)) s3)
    (c.in_ok-other-in-If.ensures.adds g width
    (omega (arith, le, c.in_ok-start-in-If.ensures.grows.registers, c.in_ok-after_one-in-If.ensures.grows.registers, c.in_ok-after_other-in-If.ensures.grows.registers, c.in_ok-one-in-If.ensures.grows.registers)) s4)

pub run-returns-in_ok-start-in-If-clause-grows : goal.run-returns-in_ok-start-in-If-clause-grows
run-returns-in_ok-start-in-If-clause-grows t c =
    grows_on _ _ _ _ c.in_ok-other-in-If.ensures.grows (grows_on _ _ _ _ c.in_ok-one-in-If.ensures.grows
    (grows_in _ _ _ _ _ c.at-at-in-If.ensures (grows_on _ _ _ _ c.in_ok-after_other-in-If.ensures.grows (grows_on _ _ _ _ c.in_ok-after_one-in-If.ensures.grows c.in_ok-start-in-If.ensures.grows))))

pub run-returns-in_ok-start-in-If-clause-sites : goal.run-returns-in_ok-start-in-If-clause-sites
run-returns-in_ok-start-in-If-clause-sites t c =
    let behind = (grows_in _ _ _ _ _ c.at-at-in-If.ensures (grows_on _ _ _ _ c.in_ok-after_other-in-If.ensures.grows (grows_on _ _ _ _ c.in_ok-after_one-in-If.ensures.grows c.in_ok-start-in-If.ensures.grows))) in
    have_if c.args.scope.now _ _ _ _ _ (c.in-If.is ∙ ap (λ (a : Stmt). st.If c.in-If.cond a c.in-If.no) (sym c.get-inner.ensures)) (item_sites c.args.scope.now _ _ _ c.at-at-in-If.ensures c.in_ok-start-in-If.ensures.sites) (have_kept _ _ _ _ behind c.in_ok-one-in-If.ensures.sites)
    (λ y is. have_kept _ _ _ _ (grows_on _ _ _ _ c.in_ok-one-in-If.ensures.grows behind) (c.in_ok-other-in-If.ensures.sites y is))

pub run-returns-in_ok-found-in-While-clause-adds : goal.run-returns-in_ok-found-in-While-clause-adds
run-returns-in_ok-found-in-While-clause-adds t c g width le stands =
    while_runs c.args.scope.now g width _ _ _ _ _ _ _ _ _ _ c.in-While.is c.get-inner-in-While.ensures (c.in_ok-found-in-While.ensures.adds g width le stands)

pub run-returns-in_ok-found-in-Do-clause-adds : goal.run-returns-in_ok-found-in-Do-clause-adds
run-returns-in_ok-found-in-Do-clause-adds t c g width le stands =
    do_runs c.args.scope.now g width _ _ _ _ _ _ _ _ _ _ c.in-Do.is c.get-inner-in-Do.ensures (c.in_ok-found-in-Do.ensures.adds g width le stands)

pub run-returns-in_ok-found-in-Do-clause-sites : goal.run-returns-in_ok-found-in-Do-clause-sites
run-returns-in_ok-found-in-Do-clause-sites t c =
    have_do c.args.scope.now _ _ _ _ (c.in-Do.is ∙ ap (λ (a : Stmt). st.Do a c.in-Do.cond) (sym c.get-inner-in-Do.ensures)) c.in_ok-found-in-Do.ensures.sites

pub run-returns-in_ok-start-in-For-clause-adds : goal.run-returns-in_ok-start-in-For-clause-adds
run-returns-in_ok-start-in-For-clause-adds t c g width le stands =
    for_runs c.args.scope.now g width _ _ _ _ _ _ _ _ _ _ _ _ _ c.in-For.is c.get-inner-in-For.ensures (c.in_ok-start-in-For.ensures.adds g width le stands)
    (c.in_ok-found-in-For.ensures.adds g width (omega (arith, le, c.in_ok-start-in-For.ensures.grows.registers)) (c.in_ok-start-in-For.ensures.grows.stands g stands))

pub run-returns-in_ok-start-in-For-clause-grows : goal.run-returns-in_ok-start-in-For-clause-grows
run-returns-in_ok-start-in-For-clause-grows t c =
    grows_on _ _ _ _ c.in_ok-found-in-For.ensures.grows c.in_ok-start-in-For.ensures.grows

pub run-returns-in_ok-start-in-For-clause-sites : goal.run-returns-in_ok-start-in-For-clause-sites
run-returns-in_ok-start-in-For-clause-sites t c =
    have_for c.args.scope.now _ _ _ _ _ _ (c.in-For.is ∙ ap (λ (a : Stmt). st.For c.in-For.first c.in-For.cond c.in-For.step a) (sym c.get-inner-in-For.ensures)) c.in_ok-start-in-For.ensures.sites (have_kept _ _ _ _ c.in_ok-start-in-For.ensures.grows c.in_ok-found-in-For.ensures.sites)

pub run-returns-in-Break-clause-adds : goal.run-returns-in-Break-clause-adds
run-returns-in-Break-clause-adds t c g width le stands =
    break_runs c.args.scope.now g width _ _ _ _ _ (break_there c.args.scope.now _ _ c.in-Break.is c.requires.there) c.in-Break.is

pub run-returns-in-Continue-clause-adds : goal.run-returns-in-Continue-clause-adds
run-returns-in-Continue-clause-adds t c g width le stands =
    continue_runs c.args.scope.now g width _ _ _ _ _ (continue_there c.args.scope.now _ _ c.in-Continue.is c.requires.there) c.in-Continue.is

pub run_all-statements-init : goal.run_all-statements-init
run_all-statements-init t c =
    (omega arith, none_run c.args.scope.now c.args.self.now c.args.ways _ c.args.ss.now (drop_all _ c.args.ss.now (omega arith)) c.requires.ways.0 (grows_none c.args.scope.now c.args.self.now) (have_none c.args.scope.now _))

pub run_all-run-requires : goal.run_all-run-requires
run_all-run-requires t c =
    let l = c.statements.invariant.1.grows.longer in (
      search (rules, the_lemmas),
      (
        one_there c.args.scope.now c.args.ss.now (c.statements.left - 1) _ _ (omega (arith, c.statements.invariant.0, c.statements-test.true)) c.index-ss-left.is c.requires.there,
        (c.statements.invariant.1.entry, omega (arith, l, c.requires.ways.1), omega (arith, l, c.requires.ways.2)),
      ),
    )

pub run_all-statements-preserved : goal.run_all-statements-preserved
run_all-statements-preserved t c =
    let lt = c.statements-test.true in
    let le = c.statements.invariant.0 in (
      omega (arith, le),
      one_more_run c.args.scope.now c.args.self.now _ _ _ _ c.args.ways (c.statements.left - 1) c.statements.left c.args.ss.now c.index-ss-left.result (omega (arith, lt)) (omega (arith, le, lt)) c.index-ss-left.is c.statements.invariant.1
          c.in_ok-start.ensures.adds c.in_ok-start.ensures.grows c.in_ok-start.ensures.entry c.in_ok-start.ensures.sites,
    )

pub run_else-returns-in-None-clause-adds : goal.run_else-returns-in-None-clause-adds
run_else-returns-in-None-clause-adds t c g width le stands =
    no_else c.args.scope.now g width _ _ _ _ _ c.in-None.is

pub run_else-returns-in_ok-start-in-Some-clause-adds : goal.run_else-returns-in_ok-start-in-Some-clause-adds
run_else-returns-in_ok-start-in-Some-clause-adds t c g width le stands =
    an_else c.args.scope.now g width _ _ _ _ _ _ _ _ c.in-Some.is c.get-inner.ensures (c.in_ok-start-in-Some.ensures.adds g width le stands)

pub turn_loop-close_loop-requires-clause-open : goal.turn_loop-close_loop-requires-clause-open
turn_loop-close_loop-requires-clause-open t c =
    (c.in_ok-begin.ensures.grows.kept _ _ (c.in_ok-again.ensures.grows.kept _ _ (opened_is c.args.self.now c.open_turn.new.self _ _ c.in_ok-turn.ensures.steps c.in_ok-turn.ensures.turn)))

pub turn_loop-returns-clause-adds : goal.turn_loop-returns-clause-adds
turn_loop-returns-clause-adds t c g width le stands =
    let by_begin = c.in_ok-close_loop.ensures.closes.stands g stands in
    let by_again = c.in_ok-begin.ensures.grows.stands g by_begin in
    loop_runs c.args.scope.now g width c.at-at.result _ _ _ _ c.args.cond.now c.args.body.now c.args.step.now c.at-at.ensures (c.in_ok-close_loop.ensures.adds g width le stands)
    (c.in_ok-begin.ensures.adds g width (omega (arith, le, c.in_ok-close_loop.ensures.closes.registers)) by_begin)
    (c.in_ok-again.ensures.adds g width (omega (arith, le, c.in_ok-close_loop.ensures.closes.registers, c.in_ok-begin.ensures.grows.registers)) by_again)

pub turn_loop-returns-clause-grows : goal.turn_loop-returns-clause-grows
turn_loop-returns-clause-grows t c =
    loop_grows_in c.args.scope.now c.at-at.result c.args.cond.now _ _ _ _ _ c.at-at.ensures c.in_ok-turn.ensures.there c.in_ok-turn.ensures.turn c.in_ok-turn.ensures.steps c.in_ok-turn.ensures.registers
    (grows_on _ _ _ _ c.in_ok-again.ensures.grows c.in_ok-begin.ensures.grows) c.in_ok-close_loop.ensures.closes

pub turn_loop-returns-clause-sites : goal.turn_loop-returns-clause-sites
turn_loop-returns-clause-sites t c =
    let opens = (c.in_ok-begin.ensures.grows.kept _ _ (c.in_ok-again.ensures.grows.kept _ _ (opened_is c.args.self.now c.open_turn.new.self _ _ c.in_ok-turn.ensures.steps c.in_ok-turn.ensures.turn))) in
    let closes = closes_in c.args.scope.now _ _ _ _ _ c.at-at.ensures c.in_ok-close_loop.ensures.closes in
    have_both _ _ (c.args.cond.now ∷ []) _ (item_sites c.args.scope.now _ _ _ c.at-at.ensures c.in_ok-close_loop.ensures.sites)
    (have_both _ _ _ _ (have_closed _ c.at-at.result.item _ _ _ _ closes opens (have_kept _ _ _ _ c.in_ok-begin.ensures.grows c.in_ok-again.ensures.sites)) (have_closed _ c.at-at.result.item _ _ _ _ closes opens c.in_ok-begin.ensures.sites))
