use Rattle.std.proofs.Common.{take}
use Rattle.ca_tree.specs.declared.numbers.FunId.{FunId}
use Rattle.ca_plan.proofs.Setting.{Fit}
use Rattle.ca_plan.proofs.points.read_functions.Given as goal

abbrev pub invariant-functions : goal.invariant-functions
invariant-functions l = Fit FunId (λ f. f.0) (take l.function-index l.fn.functions)
