use Rattle.ca_model.specs.typing.Places.{address}
use Rattle.ca_operands.proofs.Noting.{of_place}
use Rattle.ca_operands.proofs.expressions.address_of.Goals as goal

pub returns-clause-noted : goal.returns-clause-noted
returns-clause-noted c = λ s e. of_place s _ _ c.args.exp.now address c.args.of _ _ _ e c.is_some-is_typed.ensures c.addressed-address.ensures c.is_some.ensures (c.unless_place.ensures s)
