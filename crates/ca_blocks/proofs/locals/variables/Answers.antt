use Rattle.std.proofs.Common.{◌≡◌, ◌++◌, List, ap, ◌∙◌}
use Rattle.ca_model.specs.declared.tree.Stmt.{Stmt}
use Rattle.ca_model.specs.typing.Locals.{a_local}
use Rattle.ca_blocks.proofs.Telling.{whole_next}
use Rattle.ca_blocks.proofs.locals.variables.Goals as goal

pub loop-declarator-preserved : goal.loop-declarator-preserved
loop-declarator-preserved c =
    whole_next (a_local c.args.base.now) c.args.declarators.now c.args.inside.now c.args.out.now.items c.args.faults.now.first c.loop-declarator.declarator-index c.loop-declarator.inside c.local.new.inside
    c.loop-declarator.out.items c.push.new.self.items c.loop-declarator.faults.first c.local.new.faults.first c.declarator-item.result c.loop-declarator-test.true c.declarator-item.is c.loop-declarator.invariant
    (c.in_ok-push.ensures.items ∙ ap (λ (xs : List Stmt). c.loop-declarator.out.items ++ xs) c.in_ok-declared.ensures.is)
    c.in_ok-declared.ensures.noted c.in_ok-declared.ensures.behind c.in_ok-declared.ensures.grew
