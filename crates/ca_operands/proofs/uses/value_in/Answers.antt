use Rattle.std.proofs.Common.{◌∙◌}
use Rattle.ca_operands.proofs.Noting.{of_value}
use Rattle.ca_operands.proofs.uses.value_in.Goals as goal

pub returns-clause-noted : goal.returns-clause-noted
returns-clause-noted c = c.taken.ensures.noted ∙ of_value c.args.scope.now _ _ _ _ _ _ c.in_ok-given.ensures.noted c.in_ok-given.ensures.is c.place_of.ensures
