use Rattle.std.proofs.Common.{◌∙◌, ◌++◌, ◌+◌, drop, Option, ap, sym}
use Rattle.ca_model.specs.declared.types.ObjectType.{ObjectType}
use Rattle.ca_model.specs.declared.types.Wanted.TheVariants.{OfType}
use Rattle.ca_model.specs.typing.Calls.{parameters_of}
use Rattle.ca_model.specs.typing.Uses.{argument_faults, faults_in}
use Rattle.ca_bodies.specs.Shown.{shown_called}
use Rattle.ca_bodies.proofs.Arguments.{at_next, argument_first}
use Rattle.ca_bodies.proofs.calls.arguments.Goals as goal

pub loop-index-preserved : goal.loop-index-preserved
loop-index-preserved c =
    let s = c.args.scope.now in
    let xs = c.args.exps.now in
    let ps = parameters_of (shown_called c.args.of) in
    let x = c.index-exps-index.result in
    at_next s xs _ _ _ _ _ _ _ (OfType c.parameter.result) x _ c.loop-index-test.true c.index-exps-index.is c.loop-index.invariant c.in_ok-value.ensures.is c.in_ok-push.ensures.items c.in_ok-value.ensures.noted
    (argument_first s ps xs c.loop-index.index x c.loop-index-test.true c.index-exps-index.is
    ∙ ap (λ (t : Option ObjectType). faults_in s (OfType t) x ++ argument_faults s (drop (c.loop-index.index + 1) ps) (drop (c.loop-index.index + 1) xs)) (sym c.parameter.ensures))
