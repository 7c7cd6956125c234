use Rattle.std.proofs.Common.{arith}
use Rattle.ca_model.specs.typing.Globals.{with_variable}
use Rattle.ca_types.proofs.Holding.{so_next, so_last}
use Rattle.ca_types.proofs.globals.variable_list.Goals as goal

pub loop-declarator-preserved : goal.loop-declarator-preserved
loop-declarator-preserved c = (
  let before = c.loop-declarator.invariant.0 in let one = c.in_ok-variable.ensures.more in omega arith,
  c.in_ok-variable.ensures.most,
  λ k mutexes h.
      so_next (with_variable c.args.base.now) k c.args.declarators.now c.loop-declarator.declarator-index c.declarator-item.result _ _ _ _ _ _ mutexes mutexes _ _ c.loop-declarator-test.true c.declarator-item.is
      (λ j g. c.in_ok-variable.ensures.holds j mutexes g) (c.loop-declarator.invariant.2 k mutexes h),
)

pub returns-clause-holds : goal.returns-clause-holds
returns-clause-holds c = λ k mutexes h.
    so_last (with_variable c.args.base.now) k c.args.declarators.now c.loop-declarator.declarator-index _ _ _ mutexes _ (c.loop-declarator.invariant.2 k mutexes h) (omega arith)
