use Rattle.std.proofs.Common.{arith}
use Rattle.ca_model.specs.typing.Globals.{with_mutex}
use Rattle.ca_types.proofs.Holding.{mutex_holds, so_next, so_last}
use Rattle.ca_types.proofs.globals.mutex_list.Goals as goal

pub loop-declarator-preserved : goal.loop-declarator-preserved
loop-declarator-preserved c = (
  let before = c.loop-declarator.invariant.0 in let one = c.in_ok-mutex.ensures.mutexes in omega arith,
  λ k starts cells h.
      so_next with_mutex k c.args.declarators.now c.loop-declarator.declarator-index c.declarator-item.result _ _ starts starts cells cells _ _ _ _ c.loop-declarator-test.true c.declarator-item.is
      (λ j g. mutex_holds j c.declarator-item.result _ _ starts cells _ _ _ _ g c.in_ok-mutex.ensures.scope c.in_ok-mutex.ensures.mutexes c.in_ok-mutex.ensures.noted) (c.loop-declarator.invariant.1 k starts cells h),
)

pub returns-clause-holds : goal.returns-clause-holds
returns-clause-holds c = λ k starts cells h.
    so_last with_mutex k c.args.declarators.now c.loop-declarator.declarator-index _ starts cells _ _ (c.loop-declarator.invariant.1 k starts cells h) (omega arith)
