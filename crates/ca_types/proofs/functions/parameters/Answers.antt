use Rattle.std.proofs.Common.{[], refl}
use Rattle.ca_model.specs.typing.Functions.{a_parameter}
use Rattle.ca_blocks.proofs.Telling.{whole_next}
use Rattle.ca_types.proofs.functions.parameters.Goals as goal

pub loop-one-preserved : goal.loop-one-preserved
loop-one-preserved c =
    whole_next a_parameter c.args.of.now c.args.inside.now [] c.args.faults.now.first c.loop-one.one-index c.loop-one.inside c.parameter.new.inside [] [] c.loop-one.faults.first c.parameter.new.faults.first c.one-item.result
    c.loop-one-test.true c.one-item.is c.loop-one.invariant refl c.in_ok-parameter.ensures.noted c.in_ok-parameter.ensures.behind c.in_ok-parameter.ensures.grew
