use Rattle.std.proofs.Common.{◌≡◌, ◌∷◌, [], drop}
use Rattle.ca_tables.specs.Counted.{count_functions}
use Rattle.ca_tables.proofs.counts.numbers_behind.Given as goal

abbrev pub invariant-loop-number : goal.invariant-loop-number
invariant-loop-number l = count_functions l.counting (drop l.number l.checked.typed.functions) ≡ count_functions (record { behind = 1 ∷ []; next = 1 }) l.checked.typed.functions
