use Rattle.std.proofs.Common.{[], Some, refl}
use Rattle.ca_model.specs.typing.Globals.{zero_value}
use Rattle.ca_model.specs.typing.Types.{thread}
use Rattle.ca_types.proofs.Holding.{global_holds}
use Rattle.ca_types.proofs.globals.thread.Goals as goal

pub returns-clause-holds : goal.returns-clause-holds
returns-clause-holds c = λ k mutexes before.
    global_holds k c.args.of.now.name (Some thread) c.args.of.now.length zero_value [] _ _ _ _ _ _ mutexes _ _ _ before c.in_ok-global.ensures.scope c.in_ok-global.ensures.starts c.in_ok-global.ensures.cells
    c.in_ok-global.ensures.noted refl
