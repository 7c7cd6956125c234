use Rattle.std.proofs.Common.{ap, ◌∙◌}
use Rattle.ca_model.specs.declared.tree.Exp.{Exp}
use Rattle.ca_model.specs.declared.tree.Act.TheVariants as act
use Rattle.ca_model.specs.typing.Bodies.{Inside}
use Rattle.ca_model.specs.typing.Uses.{value_in}
use Rattle.ca_model.specs.typing.Locals.{item}
use Rattle.ca_model.specs.typing.Statements.{condition_faults}
use Rattle.ca_operands.specs.Noted.{noted}
use Rattle.ca_blocks.proofs.statements.condition.Goals as goal

pub returns-clause-is : goal.returns-clause-is
returns-clause-is c =
    c.in_ok-new.ensures ∙ (c.item.ensures ∙ ap (λ (v : Exp). item c.args.at (act.Cond v)) (c.in_ok-value.ensures.is ∙ ap (λ (d : Inside). value_in d.context.scope c.args.exp.now) c.inside.view_is))

pub returns-clause-noted : goal.returns-clause-noted
returns-clause-noted c = c.in_ok-value.ensures.noted ∙ ap (λ (d : Inside). noted c.args.faults.now.first (condition_faults d c.args.exp.now)) c.inside.view_is
