-- The functions of a program, beside what is visible.
use Rattle.std.specs.Prelude.{ℕ, List}
use Rattle.ca_model.specs.typing.Scopes.{FunctionOf, Scope, Context}

-- the functions that are declared so far, and the names of those that the whole program defines, in order
pub record Functions : Type 0 where
  pub functions : List FunctionOf
  pub defined : List (List ℕ)

abbrev pub context : Scope → Functions → Context
context s f = record { scope = s; functions = f.functions; defined = f.defined }
