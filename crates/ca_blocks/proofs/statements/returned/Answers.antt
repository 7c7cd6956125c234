use Rattle.std.proofs.Common.{Option, Some, ap, sym, ◌∙◌}
use Rattle.ca_tree.specs.declared.tree.Exp.{Exp as ReadExp}
use Rattle.ca_model.specs.declared.tree.Exp.{Exp}
use Rattle.ca_model.specs.declared.tree.Act.TheVariants as act
use Rattle.ca_model.specs.typing.Bodies.{Inside}
use Rattle.ca_model.specs.typing.Uses.{value_in}
use Rattle.ca_model.specs.typing.Locals.{item}
use Rattle.ca_model.specs.typing.Statements.{value_if_there, return_faults}
use Rattle.ca_operands.specs.Noted.{noted}
use Rattle.ca_blocks.proofs.statements.returned.Goals as goal

pub returns-in_ok-value-in-Some-clause-is : goal.returns-in_ok-value-in-Some-clause-is
returns-in_ok-value-in-Some-clause-is c =
    c.item.ensures
    ∙ (ap (λ (v : Exp). item c.args.at (act.Return (Some v))) (c.in_ok-value-in-Some.ensures.is ∙ ap (λ (d : Inside). value_in d.context.scope c.in-Some.exp) c.inside.view_is)
    ∙ ap (λ (r : Option ReadExp). item c.args.at (value_if_there c.args.inside.now r)) (sym c.in-Some.is))

pub returns-in_ok-value-in-Some-clause-noted : goal.returns-in_ok-value-in-Some-clause-noted
returns-in_ok-value-in-Some-clause-noted c =
    c.in_ok-value-in-Some.ensures.noted
    ∙ (ap (λ (d : Inside). noted c.args.faults.now.first (return_faults d c.args.at.pos (Some c.in-Some.exp))) c.inside.view_is
    ∙ ap (λ (r : Option ReadExp). noted c.args.faults.now.first (return_faults c.args.inside.now c.args.at.pos r)) (sym c.in-Some.is))
