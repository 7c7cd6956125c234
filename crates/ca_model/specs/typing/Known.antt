-- What is known behind some declarations of a program.
use Rattle.std.specs.Prelude.{ℕ, List, [], ◌∷◌, ◌++◌}
use Rattle.ca_model.specs.declared.tree.Function.{Function as TypedFunction}
use Rattle.ca_model.specs.declared.tree.GlobalStart.{GlobalStart}
use Rattle.ca_model.specs.declared.types.TypeFault.{TypeFault}
use Rattle.ca_model.specs.typing.Scopes.{Scope, Context}

-- what is known behind some declarations: what they declare, the typed tree so far, and what is wrong in them
pub record Known : Type 0 where
  pub context : Context
  pub starts : List GlobalStart
  -- the cells of all globals
  pub cells : ℕ
  pub mutexes : ℕ
  pub functions : List TypedFunction
  pub faults : List TypeFault

abbrev pub with_faults : Known → List TypeFault → Known
with_faults k fs = record k { faults = k.faults ++ fs }

abbrev pub in_scope : Known → Scope → Known
in_scope k s = record k { context = record k.context { scope = s } }

abbrev pub with_each : {A : Type 0} → (Known → A → Known) → Known → List A → Known
with_each f k [] = k
with_each f k (x ∷ xs) = with_each f (f k x) xs
