use Rattle.std.proofs.Common.{Some}
use Rattle.ca_model.specs.declared.types.Wanted.TheVariants.{OfType}
use Rattle.ca_bodies.proofs.Arguments.{at_next, each_first}
use Rattle.ca_bodies.proofs.calls.each_in.Goals as goal

pub loop-exp-preserved : goal.loop-exp-preserved
loop-exp-preserved c =
    at_next c.args.scope.now c.args.exps.now _ _ _ _ _ _ _ (OfType (Some c.args.of)) c.exp-item.result _ c.loop-exp-test.true c.exp-item.is c.loop-exp.invariant c.in_ok-value.ensures.is c.in_ok-push.ensures.items c.in_ok-value.ensures.noted
    (each_first c.args.scope.now c.args.of c.args.exps.now _ c.exp-item.result c.loop-exp-test.true c.exp-item.is)
