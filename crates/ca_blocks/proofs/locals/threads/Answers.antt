use Rattle.std.proofs.Common.{◌≡◌, ◌++◌, List, ap, ◌∙◌}
use Rattle.ca_model.specs.declared.tree.Stmt.{Stmt}
use Rattle.ca_model.specs.typing.Locals.{a_thread}
use Rattle.ca_blocks.proofs.Telling.{whole_next}
use Rattle.ca_blocks.proofs.locals.threads.Goals as goal

pub loop-declarator-preserved : goal.loop-declarator-preserved
loop-declarator-preserved c =
    whole_next a_thread c.args.declarators.now c.args.inside.now c.args.out.now.items c.args.faults.now.first c.loop-declarator.declarator-index c.loop-declarator.inside c.thread.new.inside
    c.loop-declarator.out.items c.push.new.self.items c.loop-declarator.faults.first c.thread.new.faults.first c.declarator-item.result c.loop-declarator-test.true c.declarator-item.is c.loop-declarator.invariant
    (c.in_ok-push.ensures.items ∙ ap (λ (xs : List Stmt). c.loop-declarator.out.items ++ xs) c.in_ok-declared.ensures.is)
    c.in_ok-declared.ensures.noted c.in_ok-declared.ensures.behind c.in_ok-declared.ensures.grew
