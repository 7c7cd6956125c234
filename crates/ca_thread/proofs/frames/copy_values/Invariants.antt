use Rattle.std.proofs.Common.{◌≡◌, take}
use Rattle.ca_thread.proofs.frames.copy_values.Given as goal

abbrev pub invariant-values : goal.invariant-values
invariant-values l = l.copy.items ≡ take l.value-index l.values
