-- What a program's typing knows behind some declarations, as the code holds it.
use Rattle.std.specs.Prelude.{◌≡◌, ◌≤◌, ◌*◌, ◌^◌, List, [], length}
use Rattle.ca_tree.specs.Counts.{Totals}
use Rattle.ca_tree.specs.TreeWords.{text_words}
use Rattle.ca_tree.specs.ProgramTrees.{IsTop, AreTops}
use Rattle.ca_tree.specs.declared.tree.Top.{Top}
use Rattle.ca_tree.specs.declared.tree.Program.{Program}
use Rattle.ca_model.specs.typing.Known.{Known, with_each}
use Rattle.ca_model.specs.typing.Programs.{known, with_top}
use Rattle.ca_bodies.specs.Functions.{Functions}
use Rattle.ca_types.specs.Holds.{Holds}
use Rattle.ca_types.specs.declared.tops.Known.{Known as KnownOf}

abbrev pub functions_of : Known → Functions
functions_of k = record { functions = k.context.functions; defined = k.context.defined }

pub record Knows (x : KnownOf) (k : Known) : Type 0 where
  pub holds : Holds k x.scope x.starts.starts.items x.starts.cells x.mutexes x.faults.first
  pub functions_are : x.functions ≡ functions_of k
  pub typed_are : x.typed.items ≡ k.functions
  -- no global has more than 2 to the power of 37 cells
  pub few_cells : x.starts.cells ≤ length x.starts.starts.items * 2 ^ 37

-- as many things as are counted, and no place inside a function
pub record Counts (n : Totals) (k : Known) : Type 0 where
  pub structs : length k.context.scope.structs ≤ n.structs
  pub globals : length k.starts ≡ n.globals
  pub mutexes : k.mutexes ≡ n.mutexes
  pub functions : length k.functions ≡ n.functions
  pub few_globals : n.globals ≤ 1024
  pub few_mutexes : n.mutexes ≤ 64
  pub few_functions : n.functions ≤ 256
  pub outside : k.context.scope.locals ≡ []

-- behind some declarations of a program, before one of the others
pub record Goes (n : Totals) (k : Known) (x : KnownOf) (a : Top) : Type 0 where
  pub behind : Totals
  pub knows : Knows x k
  pub counts : Counts n k
  pub top : IsTop text_words n a behind

-- what is left leads on to the whole program
pub record Onward (p : Program) (left : List Top) (x : KnownOf) : Type 0 where
  pub so_far : Known
  pub count : Totals
  pub last : Totals
  pub knows : Knows x so_far
  pub counts : Counts count so_far
  pub tops : AreTops text_words count left last
  pub leads_on : with_each with_top so_far left ≡ known p
