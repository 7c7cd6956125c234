use Rattle.std.proofs.Common.{◌≡◌, ◌++◌, take}
use Rattle.ca_callers.proofs.search.push_all.Given as goal

abbrev pub invariant-more : goal.invariant-more
invariant-more l = l.numbers.items ≡ l.fn.numbers.items ++ take l.n-index l.more
