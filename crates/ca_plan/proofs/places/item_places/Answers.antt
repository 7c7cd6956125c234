use Rattle.std.proofs.Common.{arith}
use Rattle.ca_plan.proofs.PlacesOfItems.{next_function, none_left}
use Rattle.ca_plan.proofs.places.item_places.Goals as goal

pub loop-number-preserved : goal.loop-number-preserved
loop-number-preserved c =
    next_function c.args.checked.now.typed.functions c.loop-number.places.items c.function-in-loop-number.new.places.items c.loop-number.number _ c.function.result.now _ (omega arith) c.function.ensures c.loop-number.invariant c.in_ok-function.ensures

pub returns : goal.returns
returns c = none_left c.args.checked.now.typed.functions c.loop-number.places.items c.loop-number.number _ (omega (arith, c.loop-number-test.false, c.functions-number-end.ensures)) c.loop-number.invariant
