use Rattle.std.proofs.Common.{◌≡◌, ◌∙◌, ◌++◌, OnOk, Option, refl, ap, subst}
use Rattle.ca_model.specs.declared.types.TypeFault.{TypeFault}
use Rattle.ca_model.specs.typing.Targets.{Aim, aim, aim_faults}
use Rattle.ca_model.specs.typing.RightSides.{right_faults}
use Rattle.ca_operands.specs.Noted.{noted}
use Rattle.ca_operands.proofs.Noting.{noted_more}
use Rattle.ca_bodies.specs.Functions.{context}
use Rattle.ca_bodies.proofs.simple_statements.set.Goals as goal

pub returns-clause-noted : goal.returns-clause-noted
returns-clause-noted c =
    let s = c.args.scope.now in
    let k = context s c.args.functions.now in
    let right = right_faults k (aim s c.args.to.now) c.args.right.now in
    let before = aim_faults s c.args.to.now in
    subst (λ (f : Option TypeFault). OnOk c.right_side.result (c.right_side.new.faults.first ≡ f))
    (ap (λ (a : Aim). noted c.aim_at.new.faults.first (right_faults k a c.args.right.now)) c.in_ok-aim.ensures.is
    ∙ noted_more c.args.faults.now.first c.aim_at.new.faults.first before right (before ++ right) c.in_ok-aim.ensures.noted refl)
    c.right_side.ensures.noted
