use Rattle.std.proofs.Common.{◌≡◌, refl, sym, subst, ap, ◌∙◌, map, rules, to_z-of_z, SFits, w64, to_z, of_z}
use Rattle.ca_model.specs.Asks.{Wants, Reads, Writes, Mallocs, Frees}
use Rattle.ca_flow.specs.Instructions.{reg, site_of, displacement}
use Rattle.ca_thread.specs.Asked.{last_or}
use Rattle.ca_wants.specs.Shown.{Shows}
use Rattle.ca_thread.proofs.Asserts.{assert_wants, last_fails}
use Rattle.ca_thread.proofs.ShownParts.{asks_as, read_kept, write_kept, lock_kept, malloc_kept, free_kept, call_kept}
use Rattle.ca_thread.proofs.next.asked.Goals as goal

pub returns-in-Assert-clause-wanted : goal.returns-in-Assert-clause-wanted
returns-in-Assert-clause-wanted c i w e text =
    subst (λ v. Shows c.failing.result (last_or c.args.last v) c.args.retry) (assert_wants c.args.instr.now c.in-Assert.value c.in-Assert.at i c.args.row.now w c.in-Assert.is e)
    (subst (λ v. Shows c.failing.result v c.args.retry) (sym (last_fails c.args.last c.in-Assert.at.site)) (c.failing.ensures c.in-Assert.at.site))

pub returns-in-Lock-clause-wanted : goal.returns-in-Lock-clause-wanted
returns-in-Lock-clause-wanted c i w e text = (c.in-Lock.at.site, i, asks_as c.args.instr.now _ i c.args.row.now w _ c.args.last c.in-Lock.is refl (lock_kept c.args.last c.in-Lock.mutex c.in-Lock.at.site i) e)

pub returns-in-Malloc-clause-wanted : goal.returns-in-Malloc-clause-wanted
returns-in-Malloc-clause-wanted c i w e text =
    let fits : SFits w64 c.cells_of.result = search rules in
    let is : to_z w64 (of_z w64 c.cells_of.result) ≡ c.cells_of.result = to_z-of_z fits in
    (i, asks_as c.args.instr.now _ i c.args.row.now w _ c.args.last c.in-Malloc.is (ap (λ n. Wants (Mallocs n i)) (sym (is ∙ c.cells_of.ensures))) (malloc_kept c.args.last _ i) e)

pub returns-in-Free-clause-wanted : goal.returns-in-Free-clause-wanted
returns-in-Free-clause-wanted c i w e text =
    (c.in-Free.at.site, asks_as c.args.instr.now _ i c.args.row.now w _ c.args.last c.in-Free.is (ap (λ x. Wants (Frees x c.in-Free.at.site)) (sym c.register-in-Free.ensures)) (free_kept c.args.last _ c.in-Free.at.site) e)

pub returns-in-Call-clause-wanted : goal.returns-in-Call-clause-wanted
returns-in-Call-clause-wanted c i w e text = (map (reg c.args.row.now) c.in-Call.arguments, asks_as c.args.instr.now _ i c.args.row.now w _ c.args.last c.in-Call.is refl (call_kept c.args.last c.in-Call.function _) e)

pub returns-in-Load-clause-wanted : goal.returns-in-Load-clause-wanted
returns-in-Load-clause-wanted c i w e text =
    let fits : SFits w64 c.displacement.result = search rules in
    let is : to_z w64 (of_z w64 c.displacement.result) ≡ c.displacement.result = to_z-of_z fits in
    let row = c.args.row.now in
    let site = site_of c.in-Load.at in (
      site,
      asks_as c.args.instr.now _ i row w _ c.args.last c.in-Load.is
          (ap (λ x. Wants (Reads x (displacement row c.in-Load.index c.in-Load.field) c.in-Load.kind site)) (sym c.register.ensures) ∙ ap (λ n. Wants (Reads c.register.result n c.in-Load.kind site)) (sym (is ∙ c.displacement.ensures)))
          (read_kept c.args.last c.register.result (to_z w64 (of_z w64 c.displacement.result)) c.in-Load.kind site) e,
    )

pub returns-in-Store-clause-wanted : goal.returns-in-Store-clause-wanted
returns-in-Store-clause-wanted c i w e text =
    let fits : SFits w64 c.displacement-in-Store.result = search rules in
    let is : to_z w64 (of_z w64 c.displacement-in-Store.result) ≡ c.displacement-in-Store.result = to_z-of_z fits in
    let row = c.args.row.now in
    let site = site_of c.in-Store.at in (
      site,
      asks_as c.args.instr.now _ i row w _ c.args.last c.in-Store.is
          (ap (λ x. Wants (Writes x (displacement row c.in-Store.index c.in-Store.field) (reg row c.in-Store.from) site)) (sym c.register-in-Store.ensures)
          ∙ (ap (λ n. Wants (Writes c.register-in-Store.result n (reg row c.in-Store.from) site)) (sym (is ∙ c.displacement-in-Store.ensures))
          ∙ ap (λ y. Wants (Writes c.register-in-Store.result (to_z w64 (of_z w64 c.displacement-in-Store.result)) y site)) (sym c.register-in-Store-2.ensures)))
          (write_kept c.args.last c.register-in-Store.result (to_z w64 (of_z w64 c.displacement-in-Store.result)) c.register-in-Store-2.result site) e,
    )
