use Rattle.std.proofs.Common.{◌≡◌, length, take}
use Rattle.std.specs.Prelude.{Contains}
use Rattle.ca_callers.specs.Callers.{Sets}
use Rattle.ca_callers.proofs.search.put_all.Given as goal

abbrev pub invariant-numbers : goal.invariant-numbers
invariant-numbers l = record {
  long : length l.flags.items ≡ length l.fn.flags.items;
  sets : Sets l.fn.flags.items l.flags.items (Contains (take l.n-index l.numbers));
}
