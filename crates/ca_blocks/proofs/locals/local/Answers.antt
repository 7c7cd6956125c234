use Rattle.std.proofs.Common.{◌≡◌, Option, sym, subst, ap, ◌∙◌}
use Rattle.ca_model.specs.declared.types.ObjectType.{ObjectType}
use Rattle.ca_model.specs.typing.Bodies.{Inside}
use Rattle.ca_model.specs.typing.Faults.{given}
use Rattle.ca_model.specs.typing.TypeNames.{written_type, type_faults}
use Rattle.ca_model.specs.typing.RightSides.{right_faults}
use Rattle.ca_model.specs.typing.Locals.{local_aim, declared_faults}
use Rattle.ca_operands.specs.Noted.{noted}
use Rattle.ca_blocks.specs.Shown.{GrewTo}
use Rattle.ca_blocks.proofs.Grown.{declared_grew}
use Rattle.ca_blocks.proofs.Telling.{noted_three}
use Rattle.ca_blocks.proofs.locals.local.Goals as goal

pub returns-clause-noted : goal.returns-clause-noted
returns-clause-noted c =
    let d = c.args.inside.now in
    let b = c.args.base.now in
    let x = c.args.of.now in
    noted_three c.args.faults.now.first c.note_type.new.faults.first c.first_act.new.faults.first c.declare.new.faults.first
    (type_faults d.context.scope b) (given x.value (right_faults d.context (local_aim d (written_type d.context.scope b x.stars)))) (declared_faults d x.name)
    (c.note_type.ensures ∙ ap (λ (d : Inside). noted c.args.faults.now.first (type_faults d.context.scope b)) c.inside.view_is)
    (c.in_ok-first_act.ensures.noted ∙ ap (λ (t : Option ObjectType). noted c.note_type.new.faults.first (given x.value (right_faults d.context (local_aim d t))))
    (c.written_type-object.ensures ∙ ap (λ (d : Inside). written_type d.context.scope b x.stars) c.inside.view_is))
    c.in_ok-declare.ensures.noted

pub returns-clause-grew : goal.returns-clause-grew
returns-clause-grew c = subst (GrewTo c.args.inside.now) (sym c.in_ok-declare.ensures.declared) (declared_grew c.args.inside.now c.args.of.now.name _)
