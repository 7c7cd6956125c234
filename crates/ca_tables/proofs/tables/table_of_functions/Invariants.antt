use Rattle.ca_tree.specs.declared.numbers.FunId.{FunId}
use Rattle.ca_tables.proofs.NumberTables.{TellsSoFar}
use Rattle.ca_tables.proofs.tables.table_of_functions.Given as goal

abbrev pub invariant-functions : goal.invariant-functions
invariant-functions l = TellsSoFar l.table.items (λ (function : FunId). function.0) l.function-index l.functions
