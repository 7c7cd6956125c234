use Rattle.std.proofs.Common.{◌∙◌, refl}
use Rattle.ca_model.specs.typing.Expressions.{judged, no_place}
use Rattle.ca_model.specs.typing.Targets.{target_of, aim_faults}
use Rattle.ca_operands.proofs.Noting.{noted_more, of_place}
use Rattle.ca_bodies.proofs.targets.target.Goals as goal

pub returns-clause-noted : goal.returns-clause-noted
returns-clause-noted c =
    let s = c.args.scope.now in
    let x = c.args.exp.now in
    of_place s _ _ x target_of c.in_ok-of.of _ _ _ c.in_ok-of.ensures.is c.is_some-is_typed.ensures c.targeted-found.ensures c.is_some.ensures (c.unless_place.ensures s)
    ∙ noted_more _ _ (judged s x).faults (no_place (judged s x) target_of) (aim_faults s x) c.in_ok-of.ensures.noted refl
