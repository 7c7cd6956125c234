-- What the parts of the code hold of what is known behind some declarations.
use Rattle.std.specs.Prelude.{◌≡◌, ℕ, List, Option, None}
use Rattle.ca_model.specs.declared.tree.GlobalStart.{GlobalStart}
use Rattle.ca_model.specs.declared.types.TypeFault.{TypeFault}
use Rattle.ca_model.specs.typing.Known.{Known}
use Rattle.ca_model.specs.typing.Scopes.{Scope}
use Rattle.ca_operands.specs.Noted.{noted}

-- what is visible, the globals with their cells, how many mutexes there are, and the first fault
pub record Holds (k : Known) (scope : Scope) (starts : List GlobalStart) (cells : ℕ) (mutexes : ℕ) (first : Option TypeFault) : Type 0 where
  pub scope_is : scope ≡ k.context.scope
  pub starts_are : starts ≡ k.starts
  pub cells_are : cells ≡ k.cells
  pub mutexes_are : mutexes ≡ k.mutexes
  pub first_is : first ≡ noted None k.faults
