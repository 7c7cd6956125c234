use Rattle.std.proofs.Common.{arith, ◌-◌}
use Rattle.std.proofs.lemmas.Option.{slice_get-get_or}
use Rattle.ca_memory.proofs.Lending.{taken_next}
use Rattle.ca_memory.proofs.owners.take_all.Goals as goal

pub things-preserved : goal.things-preserved
things-preserved c =
    let some = c.things-test.true in
    let within = c.things.invariant.within in
    record {
      within = omega (arith, within);
      taken = taken_next c.args.owners.now c.things.owners _ c.args.t c.args.things.now (c.things.left - 1) c.things.left _ c.things.invariant.taken
          (slice_get-get_or c.args.things.now (c.things.left - 1) _ (omega (arith, some, within))) (omega (arith, some)) c.take_thing.ensures;
    }
