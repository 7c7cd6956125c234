use Rattle.std.proofs.Common.{◌≡◌, ◌+◌, ℕ}
use Rattle.ca_ahead.proofs.Ahead.{IsLayer}
use Rattle.ca_ahead.proofs.before.stands_before.Given as goal

abbrev pub invariant-layers : goal.invariant-layers
invariant-layers l = (k : ℕ) → k + l.counter ≡ l.depth → IsLayer l.code.source l.depth l.marked k l.flags.items
