use Rattle.ca_model.specs.Destroying.{is_lock}
use Rattle.ca_prune.specs.Pruning.{act_changes}
use Rattle.ca_prune.proofs.Answering.{told_before}
use Rattle.ca_prune.proofs.one.is_hopeless.Goals as goal

pub returns : goal.returns
returns c = λ depth s is before.
    let p = c.args.code.now.source in
    let formed = c.item_of.ensures.formed in
    c.reason.ensures depth s is
    (told_before p formed.0 formed.1 depth s.item c.args.points.now.items c.as_slice-before.result.now is_lock c.has_lock-lock_before.result c.as_slice-before.ensures before c.has_lock-lock_before.ensures)
    (told_before p formed.0 formed.1 depth s.item c.args.points.now.items c.as_slice-before.result.now act_changes c.has_change-change_before.result c.as_slice-before.ensures before c.has_change-change_before.ensures)
