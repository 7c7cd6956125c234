use Rattle.std.proofs.Common.{◌≡◌, Option, Some, sym, ap, ◌∙◌}
use Rattle.ca_tree.specs.declared.tree.Right.{Right}
use Rattle.ca_model.specs.typing.Bodies.{Inside}
use Rattle.ca_model.specs.typing.RightSides.{set_act}
use Rattle.ca_model.specs.typing.Locals.{local_aim, first_act}
use Rattle.ca_model.specs.typing.Targets.{Aim}
use Rattle.ca_bodies.specs.Shown.{shown_aim}
use Rattle.ca_blocks.proofs.locals.first_act.Goals as goal

pub returns-in_ok-act-in-Some-clause-is : goal.returns-in_ok-act-in-Some-clause-is
returns-in_ok-act-in-Some-clause-is c =
    c.in_ok-act-in-Some.ensures.is
    ∙ (ap (λ (d : Inside). set_act d.context (shown_aim c.local_aim-aim.result) c.in-Some.right) c.inside.view_is
    ∙ (ap (λ (a : Aim). set_act c.args.inside.now.context a c.in-Some.right) c.local_aim-aim.ensures
    ∙ ap (λ (r : Option Right). first_act c.args.inside.now c.args.of r) (sym c.in-Some.is)))
