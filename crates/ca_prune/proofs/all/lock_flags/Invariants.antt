use Rattle.std.proofs.Common.{◌≡◌, ◌++◌, map, drop}
use Rattle.ca_flow.specs.declared.changes.ItemKind.{ItemKind}
use Rattle.ca_prune.specs.Pruning.{by_number}
use Rattle.ca_prune.proofs.all.lock_flags.Given as goal

abbrev pub invariant-kinds : goal.invariant-kinds
invariant-kinds l = l.flags.items ++ map (λ (k : ItemKind). k.is_lock) (drop l.kind-index l.fn.kinds) ≡ by_number (λ (k : ItemKind). k.is_lock) l.fn.kinds
