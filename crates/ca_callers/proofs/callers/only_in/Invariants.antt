use Rattle.std.proofs.Common.{◌≡◌, ℕ, take}
use Rattle.std.specs.Prelude.{Contains}
use Rattle.ca_callers.proofs.callers.only_in.Given as goal

abbrev pub invariant-numbers : goal.invariant-numbers
invariant-numbers l = (m : ℕ) → Contains (take l.n-index l.numbers) m → m ≡ l.first
