use Rattle.std.proofs.Common.{drop}
use Rattle.ca_prune.specs.Pruning.{act_changes}
use Rattle.ca_prune.specs.Pruning.{HasAmong}
use Rattle.ca_prune.proofs.one.has_change.Given as goal

abbrev pub invariant-items : goal.invariant-items
invariant-items l = HasAmong l.code.source l.fn.items act_changes → HasAmong l.code.source (drop l.item-index l.fn.items) act_changes
