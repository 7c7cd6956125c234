-- A source: a program and its typed tree.
use Rattle.std.specs.Prelude.{ℕ, List}
use Rattle.ca_tree.specs.declared.tree.Program.{Program}
use Rattle.ca_tree.specs.ProgramTrees.{IsWrittenProgram}
use Rattle.ca_model.specs.declared.tree.Function.{Function}
use Rattle.ca_model.specs.declared.tree.GlobalStart.{GlobalStart}
use Rattle.ca_model.specs.Codes.{Typed}
use Rattle.ca_model.specs.typing.Programs.{definitions}
use Rattle.ca_model.specs.typing.Typing.{IsTyping, main_number}

pub record Source : Type 0 where
  pub program : Program
  pub typed : Typed

-- a program with functions, globals and mutexes; which function is `main` is seen in the program
abbrev pub source : Program → List Function → List GlobalStart → ℕ → Source
source p fs gs n = record { program = p; typed = record { functions = fs; main = main_number 0 (definitions p.tops); globals = gs; mutexes = n } }

-- the program is one of a text within the limits, and the typed tree is its typing
pub record IsChecked (x : Source) : Type 0 where
  pub program : IsWrittenProgram x.program
  pub typing : IsTyping x.program x.typed
