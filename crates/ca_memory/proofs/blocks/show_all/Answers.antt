use Rattle.std.proofs.Common.{arith, ◌-◌}
use Rattle.std.proofs.lemmas.Option.{slice_get-get_or}
use Rattle.ca_memory.specs.Kept.{blocks_of}
use Rattle.ca_memory.proofs.Hiding.{shown_next}
use Rattle.ca_memory.proofs.blocks.show_all.Goals as goal

pub things-preserved : goal.things-preserved
things-preserved c =
    let some = c.things-test.true in
    let within = c.things.invariant.within in
    record {
      within = omega (arith, within);
      shown = shown_next (blocks_of c.args.table.now.entries) (blocks_of c.things.table.entries) _ c.args.things.now (c.things.left - 1) c.things.left _ c.things.invariant.shown
          (slice_get-get_or c.args.things.now (c.things.left - 1) _ (omega (arith, some, within))) (omega (arith, some)) c.show_thing.ensures;
    }
