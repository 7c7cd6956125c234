use Rattle.std.proofs.Common.{◌∙◌, Option, ap}
use Rattle.ca_model.specs.declared.tree.Target.{Target}
use Rattle.ca_model.specs.declared.types.ObjectType.{ObjectType}
use Rattle.ca_model.specs.declared.types.Operand.{Operand}
use Rattle.ca_model.specs.declared.types.TypeKind.TheVariants as wrong
use Rattle.ca_model.specs.typing.Expressions.{judged}
use Rattle.ca_model.specs.typing.Faults.{fault, unless}
use Rattle.ca_model.specs.typing.SimpleStatements.{update_allowed}
use Rattle.ca_model.specs.typing.Targets.{aim_faults, target_of}
use Rattle.ca_model.specs.typing.Values.{also}
use Rattle.ca_operands.specs.Noted.{noted}
use Rattle.ca_operands.proofs.Noting.{noted_three}
use Rattle.ca_bodies.proofs.simple_statements.update.Goals as goal

pub returns-clause-noted : goal.returns-clause-noted
returns-clause-noted c =
    let a = judged c.args.scope.now c.args.to.now in
    let b = judged c.args.scope.now c.args.exp.now in
    let told = λ (x : Option (ObjectType × Target)) (y : Option Operand). noted c.operand.new.faults.first (unless (update_allowed x y) (fault c.args.pos wrong.Mismatch)) in
    noted_three c.args.faults.now.first c.target.new.faults.first c.operand.new.faults.first c.updated.new.faults.first (aim_faults c.args.scope.now c.args.to.now) b.faults
    (unless (update_allowed (also a.is target_of) b.is) (fault c.args.pos wrong.Mismatch)) c.in_ok-found.ensures.noted c.in_ok-operand.ensures.noted
    (c.updated.ensures.noted ∙ ap (λ (x : Option (ObjectType × Target)). told x c.in_ok-operand.operand) c.in_ok-found.ensures.is ∙ ap (told (also a.is target_of)) c.in_ok-operand.ensures.is)
