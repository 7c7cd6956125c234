use Rattle.std.proofs.Common.{◌≡◌, take}
use Rattle.ca_check.proofs.lifting.copy.Given as goal

abbrev pub invariant-entries : goal.invariant-entries
invariant-entries l = l.list.items ≡ take l.event-index l.events
