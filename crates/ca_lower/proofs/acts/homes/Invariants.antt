use Rattle.std.proofs.Common.{◌≡◌, ◌+◌, ◌++◌, drop, length}
use Rattle.ca_lower.specs.Lowered.{homes}
use Rattle.ca_lower.proofs.acts.homes.Given as goal

abbrev pub invariant-arguments : goal.invariant-arguments
invariant-arguments l = (l.register ≡ l.fn.free + l.e-index) × (l.regs.items ++ homes (drop l.e-index l.fn.es) l.register ≡ homes l.fn.es l.fn.free) × (length l.regs.items ≡ l.e-index)
