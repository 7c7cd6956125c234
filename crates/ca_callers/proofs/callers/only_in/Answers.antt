use Rattle.std.proofs.Common.{◌≡◌, Some, arith, sym}
use Rattle.std.specs.Prelude.{slice_get}
use Rattle.ca_flow.proofs.FunctionItems.{found_in}
use Rattle.ca_callers.proofs.InRuns.{none_yet, one_more, all_one, two_there}
use Rattle.ca_callers.proofs.callers.only_in.Goals as goal

pub numbers-init : goal.numbers-init
numbers-init c = none_yet c.args.numbers.now c.in-Some.first.now

pub numbers-preserved : goal.numbers-preserved
numbers-preserved c = one_more c.args.numbers.now c.numbers.n-index c.in-Some.first.now c.numbers-test.true c.if-n-first.false c.numbers.invariant

pub returns-then-n-first : goal.returns-then-n-first
returns-then-n-first c = λ n.
    let there : Some c.in-Some.first.now ≡ slice_get c.args.numbers.now 0 = rw c.in-Some.is at c.first.ensures.value in
    two_there c.args.numbers.now c.numbers.n-index c.in-Some.first.now n c.numbers-test.true (found_in c.args.numbers.now 0 c.in-Some.first.now (sym there)) c.if-n-first.true

pub returns : goal.returns
returns c =
    let there : Some c.in-Some.first.now ≡ slice_get c.args.numbers.now 0 = rw c.in-Some.is at c.first.ensures.value in
    all_one c.args.numbers.now c.numbers.n-index c.in-Some.first.now (omega (arith, c.numbers-test.false)) (found_in c.args.numbers.now 0 c.in-Some.first.now (sym there)) c.numbers.invariant
