use Rattle.std.proofs.Common.{arith, refl}
use Rattle.ca_tree.specs.declared.numbers.FunId.{FunId}
use Rattle.ca_plan.proofs.Setting.{none_fits, fits_more, all_fit}
use Rattle.ca_plan.proofs.points.read_functions.Goals as goal

pub functions-init : goal.functions-init
functions-init c = none_fits FunId (λ f. f.0)

pub functions-preserved : goal.functions-preserved
functions-preserved c = fits_more FunId (λ f. f.0) c.args.functions.now c.functions.function-index _ _ c.functions-test.true refl c.read_function.ensures c.functions.invariant

pub returns : goal.returns
returns c = all_fit FunId (λ f. f.0) c.args.functions.now c.functions.function-index (omega (arith, c.functions-test.false)) c.functions.invariant
