use Rattle.std.proofs.Common.{arith, ◌+◌}
use Rattle.std.proofs.lemmas.Option.{slice_get-get_or, slice_get_within}
use Rattle.ca_memory.proofs.Lending.{given_next}
use Rattle.ca_memory.proofs.owners.give_all.Goals as goal

pub things-preserved : goal.things-preserved
things-preserved c =
    given_next _ c.things.owners _ c.args.t c.args.things.now c.things.index (c.things.index + 1) _ c.things.invariant
    (slice_get-get_or c.args.things.now c.things.index _ c.things-test.true) (omega arith) c.things-test.true c.if-not-give_thing.ensures.given

pub returns-clause-first : goal.returns-clause-first
returns-clause-first c = λ g at held. let within = slice_get_within c.args.things.now c.things.index g at in let end = c.things-test.false in omega (arith, within, end)
