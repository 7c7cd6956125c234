use Rattle.std.proofs.Common.{refl}
use Rattle.ca_types.proofs.Knowing.{room_for_a_function, function_known}
use Rattle.ca_types.proofs.tops.with_function.Goals as goal

pub function-requires-clause-parameters : goal.function-requires-clause-parameters
function-requires-clause-parameters c = (room_for_a_function c.requires.0 c.requires.1 c.args.known c.args.of.now c.requires.2).2

pub returns : goal.returns
returns c = λ k h. function_known c.args.known _ k h c.args.of.now refl refl c.in_ok-scope.ensures.context c.in_ok-scope.ensures.typed c.in_ok-scope.ensures.noted
