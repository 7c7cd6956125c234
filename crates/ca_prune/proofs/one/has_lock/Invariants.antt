use Rattle.std.proofs.Common.{drop}
use Rattle.ca_model.specs.Destroying.{is_lock}
use Rattle.ca_prune.specs.Pruning.{HasAmong}
use Rattle.ca_prune.proofs.one.has_lock.Given as goal

abbrev pub invariant-items : goal.invariant-items
invariant-items l = HasAmong l.code.source l.fn.items is_lock → HasAmong l.code.source (drop l.item-index l.fn.items) is_lock
