use Rattle.std.proofs.Common.{ap, ◌∙◌}
use Rattle.ca_model.specs.declared.tree.Act.{Act}
use Rattle.ca_model.specs.typing.Bodies.{Inside}
use Rattle.ca_model.specs.typing.SimpleStatements.{simple_act}
use Rattle.ca_model.specs.typing.Locals.{item}
use Rattle.ca_blocks.proofs.statements.simple.Goals as goal

pub returns-clause-is : goal.returns-clause-is
returns-clause-is c = c.item.ensures ∙ ap (λ (a : Act). item c.args.at a) (c.in_ok-act.ensures.is ∙ ap (λ (d : Inside). simple_act d.context c.args.of.now) c.inside.view_is)
