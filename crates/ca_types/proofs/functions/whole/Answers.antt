use Rattle.ca_blocks.proofs.Grown.{grew_through}
use Rattle.ca_types.proofs.Begun.{whole_is, whole_noted}
use Rattle.ca_types.proofs.functions.whole.Goals as goal

pub returns-clause-is : goal.returns-clause-is
returns-clause-is c =
    whole_is c.args.inside.now c.parameters.new.inside c.args.of.now c.as_slice.result.now c.in_ok-stmts.stmts.items c.as_slice.ensures c.in_ok-parameters.ensures.behind c.in_ok-stmts.ensures.is

pub returns-clause-noted : goal.returns-clause-noted
returns-clause-noted c =
    whole_noted c.args.inside.now c.parameters.new.inside c.args.of.now c.as_slice.result.now _ _ _ c.as_slice.ensures c.in_ok-parameters.ensures.behind c.in_ok-parameters.ensures.noted c.in_ok-stmts.ensures.noted

pub returns-clause-grew : goal.returns-clause-grew
returns-clause-grew c = grew_through c.args.inside.now c.parameters.new.inside c.body.new.inside c.in_ok-parameters.ensures.grew c.in_ok-stmts.ensures.grew
