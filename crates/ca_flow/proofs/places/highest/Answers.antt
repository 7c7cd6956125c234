use Rattle.std.proofs.Common.{arith}
use Rattle.ca_flow.proofs.SitePlaces.{there, highest_on, highest_one, highest_all}
use Rattle.ca_flow.proofs.places.highest.Goals as goal

pub steps-preserved : goal.steps-preserved
steps-preserved c =
    let at = there c.args.steps.now c.steps.step-index c.step-item.result c.steps-test.true c.step-item.is in
    record {
      least = omega (arith, c.steps.invariant.least, c.higher-last.ensures.least);
      all = highest_on c.args.steps.now c.steps.step-index c.steps.last c.higher-last.result c.step-item.result at c.higher-last.ensures.least c.higher-last.ensures.all c.steps.invariant.all;
      one = highest_one c.args.steps.now c.args.above c.steps.last c.higher-last.result c.steps.step-index c.step-item.result at c.higher-last.ensures.one c.steps.invariant.one;
    }

pub returns-clause-all : goal.returns-clause-all
returns-clause-all c = highest_all c.args.steps.now c.steps.step-index c.steps.last c.steps-test.false c.steps.invariant.all
