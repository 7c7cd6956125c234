-- How many mutexes, and how many other globals, a declaration declares.
use Rattle.std.specs.Prelude.{ℕ, length}
use Rattle.ca_tree.specs.declared.tree.Globals.{Globals}
use Rattle.ca_tree.specs.declared.tree.Globals.TheVariants as globals

abbrev pub mutex_count : Globals → ℕ
mutex_count (globals.Mutexes ds) = length ds
mutex_count g = 0

abbrev pub start_count : Globals → ℕ
start_count (globals.Mutexes ds) = 0
start_count (globals.Threads ds) = length ds
start_count (globals.Variables b ds) = length ds
