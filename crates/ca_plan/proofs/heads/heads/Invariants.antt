use Rattle.std.proofs.Common.{◌≡◌, length}
use Rattle.ca_plan.specs.Finding.{AreHeads}
use Rattle.ca_plan.proofs.heads.heads.Given as goal

abbrev pub invariant-items : goal.invariant-items
invariant-items l = record {
  many : length l.heads.items ≡ l.number;
  are : AreHeads l.callers l.heads.items;
}
