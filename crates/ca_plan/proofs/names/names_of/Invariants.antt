use Rattle.std.proofs.Common.{◌≡◌, ◌++◌, map, drop}
use Rattle.ca_model.specs.typing.Programs.{definitions}
use Rattle.ca_plan.specs.SiteTables.{names}
use Rattle.ca_plan.proofs.names.names_of.Given as goal

abbrev pub invariant-tops : goal.invariant-tops
invariant-tops l = l.names.items ++ map (λ f. f.name.text) (definitions (drop l.top-index l.program.tops)) ≡ names l.program
