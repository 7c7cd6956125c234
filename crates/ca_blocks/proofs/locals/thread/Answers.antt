use Rattle.std.proofs.Common.{sym, subst}
use Rattle.ca_blocks.specs.Shown.{GrewTo}
use Rattle.ca_blocks.proofs.Grown.{declared_grew}
use Rattle.ca_blocks.proofs.locals.thread.Goals as goal

pub returns-clause-grew : goal.returns-clause-grew
returns-clause-grew c = subst (GrewTo c.args.inside.now) (sym c.in_ok-declare.ensures.declared) (declared_grew c.args.inside.now c.args.of.now.name _)
