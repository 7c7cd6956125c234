use Rattle.std.proofs.Common.{◌≡◌, ◌+◌, length, take, refl, subst, arith}
use Rattle.ca_region.specs.Regions.{IsAt}
use Rattle.ca_region.proofs.Filling.{take_all, IsMarked, turn_marks, turn_passes}
use Rattle.ca_region.proofs.back.ends.Goals as goal
use Rattle.ca_region.proofs.back.ends.Goals.{then-is_end, else-is_end}

pub links-preserved : goal.links-preserved
links-preserved c =
    let done : (length c.if-is_end.set.items ≡ c.args.count) × IsMarked c.args.lowest c.args.count (λ n. IsAt c.args.start c.args.flags.now n) (take (c.links.link-index + 1) c.args.links.now) c.if-is_end.set.items = elim c.if-is_end.branch [
      | then-is_end w ↦ turn_marks c.args.lowest c.args.count c.args.links.now c.args.links.now c.links.link-index refl c.links-test.true (λ n. IsAt c.args.start c.args.flags.now n)
          c.links.set w.put.new.flags c.if-is_end.set _ (c.is_end.ensures.0 w.if-is_end.true) c.links.invariant.long c.links.invariant.marked w.put.ensures.length w.put.ensures.sets w.saturating_sub.ensures w.set-is
      | else-is_end w ↦ turn_passes c.args.lowest c.args.count c.args.links.now c.args.links.now c.links.link-index refl c.links-test.true (λ n. IsAt c.args.start c.args.flags.now n)
          c.links.set c.if-is_end.set (λ end. let is = c.is_end.ensures.1 end in let no' = w.if-is_end.false in cc) c.links.invariant.long c.links.invariant.marked w.set-is
    ] in
    record { long = done.0; marked = done.1 }

pub returns-clause-exact : goal.returns-clause-exact
returns-clause-exact c =
    subst (λ ls. IsMarked c.args.lowest c.args.count (λ n. IsAt c.args.start c.args.flags.now n) ls c.links.set.items) (take_all c.args.links.now c.links.link-index (omega (arith, c.links-test.false))) c.links.invariant.marked
