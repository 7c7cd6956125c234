use Rattle.ca_types.proofs.Holding.{variable_holds}
use Rattle.ca_types.proofs.globals.variable.Goals as goal

pub returns-clause-holds : goal.returns-clause-holds
returns-clause-holds c = λ k mutexes before.
    variable_holds k c.args.base.now c.args.of.now _ _ _ _ _ _ _ _ _ _ mutexes _ _ _ before c.written_type.ensures c.length_of.ensures c.first_value.ensures c.constant_is_right-is_right.ensures
    c.in_ok-global.ensures.scope c.in_ok-global.ensures.starts c.in_ok-global.ensures.cells c.in_ok-global.ensures.noted c.unless.ensures
