use Rattle.std.proofs.Common.{◌∙◌, ◌&&◌, Bool, Option, Some, ap}
use Rattle.ca_model.specs.declared.types.ObjectType.{ObjectType}
use Rattle.ca_model.specs.declared.types.TypeKind.TheVariants as wrong
use Rattle.ca_model.specs.typing.Faults.{fault, given, unless}
use Rattle.ca_model.specs.typing.RightSides.{cast_is_right, pointer_goes_into}
use Rattle.ca_model.specs.declared.types.Wanted.TheVariants.{OfType}
use Rattle.ca_model.specs.typing.TypeNames.{type_faults, type_in}
use Rattle.ca_model.specs.typing.Types.{int}
use Rattle.ca_model.specs.typing.Uses.{faults_in}
use Rattle.ca_operands.specs.Noted.{noted}
use Rattle.ca_operands.proofs.Noting.{noted_four}
use Rattle.ca_bodies.proofs.right_sides.malloc.Goals as goal

pub returns-clause-noted : goal.returns-clause-noted
returns-clause-noted c =
    let s = c.args.scope.now in
    let m = c.args.of.now in
    noted_four c.args.faults.now.first c.note_cast.new.faults.first c.count_in.new.faults.first c.note_type.new.faults.first c.unless.new.self.first (given m.cast (λ t. type_faults s t.base))
    (given m.count (faults_in s (OfType (Some int)))) (type_faults s m.of.base)
    (unless (cast_is_right s m.cast c.args.aim.now.of && pointer_goes_into (type_in s m.of) c.args.aim.now.of) (fault m.pos wrong.Mismatch)) c.note_cast.ensures c.in_ok-count.ensures.noted c.note_type.ensures
    (c.unless.ensures ∙ ap (λ (b : Bool). noted c.note_type.new.faults.first (unless b (fault c.args.of.now.pos wrong.Mismatch)))
    (c.malloc_is_right-is_right.ensures
    ∙ ap (λ (t : Option ObjectType). cast_is_right c.args.scope.now c.args.of.now.cast c.args.aim.now.of && pointer_goes_into t c.args.aim.now.of) c.type_in-element.ensures))
