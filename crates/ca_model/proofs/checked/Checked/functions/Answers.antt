use Rattle.std.proofs.Common.{arith}
use Rattle.ca_model.proofs.TypedCounts.{typing_is_counted}
use Rattle.ca_model.proofs.checked.Checked.functions.Goals as goal

pub overflow_cast-result : goal.overflow_cast-result
overflow_cast-result c = let few = (typing_is_counted c.self.invariant.program c.self.invariant.typing).few_functions in let is = c.len.ensures in omega arith
