use Rattle.std.proofs.Common.{ap, ◌∙◌, arith}
use Rattle.ca_tables.specs.Counted.{Counted}
use Rattle.ca_tables.proofs.CountedItems.{next_function, none_left, numbers_are}
use Rattle.ca_tables.proofs.counts.numbers_behind.Goals as goal

pub loop-number-preserved : goal.loop-number-preserved
loop-number-preserved c =
    next_function c.args.checked.now.typed.functions c.loop-number.counting c.function-in-loop-number.new.counting c.loop-number.number _ c.function.result.now _ (omega arith) c.function.ensures c.loop-number.invariant c.in_ok-function.ensures

pub returns : goal.returns
returns c =
    ap (λ (m : Counted). m.behind) c.counting-2.view_is
    ∙ numbers_are c.loop-number.counting c.args.checked.now.typed.functions (none_left c.args.checked.now.typed.functions c.loop-number.counting c.loop-number.number _ (omega (arith, c.loop-number-test.false, c.functions-number-end.ensures)) c.loop-number.invariant)
