-- The typing of a program, or its first fault.
use Rattle.std.specs.Prelude.{◌≡◌, ℕ, ◌+◌, List, [], ◌∷◌, if◌then◌else◌}
use Rattle.ca_tree.specs.declared.numbers.FunId.{FunId}
use Rattle.ca_tree.specs.declared.tree.Function.{Function}
use Rattle.ca_tree.specs.declared.tree.Program.{Program}
use Rattle.ca_model.specs.Codes.{Typed}
use Rattle.ca_model.specs.declared.types.TypeFault.{TypeFault}
use Rattle.ca_model.specs.typing.Faults.{IsFirst}
use Rattle.ca_model.specs.typing.Known.{Known}
use Rattle.ca_model.specs.typing.Programs.{definitions, is_main, known}

-- the number of `main`; 0 where there is none
abbrev pub main_number : ℕ → List Function → FunId
main_number k [] = record { 0 = 0 }
main_number k (f ∷ more) = if is_main f then record { 0 = k } else main_number (k + 1) more

abbrev pub typed_by : Program → Known → Typed
typed_by p k = record { functions = k.functions; main = main_number 0 (definitions p.tops); globals = k.starts; mutexes = k.mutexes }

-- nothing is wrong with the program, and t is its typed tree
pub record IsTyping (p : Program) (t : Typed) : Type 0 where
  pub sound : (known p).faults ≡ []
  pub is : t ≡ typed_by p (known p)

-- the first fault of a program
abbrev pub IsFault : Program → TypeFault → Type 0
IsFault p x = IsFirst (known p).faults x
