use Rattle.std.proofs.Common.{◌∙◌, ap, sym}
use Rattle.ca_tree.specs.declared.tree.UnaryOp.{UnaryOp}
use Rattle.ca_model.specs.typing.Expressions.{judged, unary_faults}
use Rattle.ca_operands.specs.Noted.{noted}
use Rattle.ca_operands.proofs.expressions.unary.Goals as goal

pub returns-in-AddressOf-clause-noted : goal.returns-in-AddressOf-clause-noted
returns-in-AddressOf-clause-noted c = λ s e.
    c.address_of.ensures.noted s e
    ∙ ap (λ (o : UnaryOp). noted c.args.faults.now.first (unary_faults o c.args.pos (judged s c.args.exp.now))) (sym c.in-AddressOf.is)
