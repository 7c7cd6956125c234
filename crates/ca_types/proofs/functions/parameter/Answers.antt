use Rattle.std.proofs.Common.{subst, sym}
use Rattle.ca_model.specs.typing.Bodies.{Inside}
use Rattle.ca_blocks.specs.Shown.{GrewTo}
use Rattle.ca_blocks.proofs.Grown.{declared_grew}
use Rattle.ca_types.proofs.functions.parameter.Goals as goal

pub returns-clause-grew : goal.returns-clause-grew
returns-clause-grew c =
    subst (λ (d : Inside). GrewTo c.args.inside.now d) (sym c.in_ok-declare.ensures.declared) (declared_grew c.args.inside.now c.in-Some.name c.parameter_type-gives.result)
