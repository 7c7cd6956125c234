use Rattle.std.proofs.Common.{◌≡◌, ◌+◌, length, take, refl, sym, ◌∙◌, subst, arith}
use Rattle.ca_reach.specs.Reach.{rows_of}
use Rattle.ca_region.proofs.Filling.{take_all, IsFilled, turn_adds, turn_keeps, passed, stopped}
use Rattle.ca_region.proofs.back.back_rows.Goals as goal
use Rattle.ca_region.proofs.back.back_rows.Goals.{then-is_passed+in_ok-add, else-is_passed}

pub links-preserved : goal.links-preserved
links-preserved c =
    let done : (length (rows_of c.if-is_passed.rows.items) ≡ c.args.count) × IsFilled c.args.lowest c.args.count (take (c.links.link-index + 1) c.args.links.now) (rows_of c.if-is_passed.rows.items) = elim c.if-is_passed.branch [
      | then-is_passed+in_ok-add w ↦ turn_adds c.args.lowest c.args.count c.args.links.now c.args.links.now c.links.link-index refl c.links-test.true
          c.links.rows w.add.new.rows c.if-is_passed.rows _ _ (passed _ (sym c.is_passed.ensures ∙ w.if-is_passed.true)) c.links.invariant.long c.links.invariant.filled w.in_ok-add.ensures.length w.in_ok-add.ensures.added w.saturating_sub.ensures w.saturating_sub-then-is_passed.ensures w.rows-is
      | else-is_passed w ↦ turn_keeps c.args.lowest c.args.count c.args.links.now c.args.links.now c.links.link-index refl c.links-test.true
          c.links.rows c.if-is_passed.rows (stopped _ (sym c.is_passed.ensures ∙ w.if-is_passed.false)) c.links.invariant.long c.links.invariant.filled w.rows-is
    ] in
    record { long = done.0; filled = done.1 }

pub returns-clause-exact : goal.returns-clause-exact
returns-clause-exact c =
    subst (λ ls. IsFilled c.args.lowest c.args.count ls (rows_of c.links.rows.items)) (take_all c.args.links.now c.links.link-index (omega (arith, c.links-test.false))) c.links.invariant.filled
