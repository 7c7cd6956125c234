use Rattle.std.proofs.Common.{map}
use Rattle.std.specs.List.Sorted.{IsStrictlyIncreasing}
use Rattle.ca_plan.specs.Planning.{options_of}
use Rattle.ca_plan.proofs.Taking.{AreTakenTo}
use Rattle.ca_plan.proofs.taken.taken.Given as goal

abbrev pub invariant-sites : goal.invariant-sites
invariant-sites l = record {
  are : AreTakenTo l.code.source (options_of l.options) l.k l.sites.items;
  ascend : IsStrictlyIncreasing (map (λ s. s.0) l.sites.items);
}
