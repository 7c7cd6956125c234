-- How many things of each kind a program has: at most, and so far.
use Rattle.std.specs.Prelude.{ℕ, suc}
use Rattle.ca_tree.specs.declared.counted.Counted.{Counted}
use Rattle.ca_tree.specs.declared.counted.Counted.TheVariants as counted

abbrev pub most : Counted → ℕ
most counted.Items = 65536
most counted.Functions = 256
most counted.Globals = 1024
most counted.Mutexes = 64
most counted.Structs = 64
most counted.Fields = 64
most counted.Parameters = 16
most counted.Arguments = 8
most counted.Nesting = 64
most counted.StringBytes = 256
most counted.NameBytes = 63

-- how many there are so far
pub record Totals : Type 0 where
  pub items : ℕ
  pub functions : ℕ
  pub globals : ℕ
  pub mutexes : ℕ
  pub structs : ℕ

abbrev pub one_more_global : Totals → Totals
one_more_global n = record { items = n.items; functions = n.functions; globals = suc n.globals; mutexes = n.mutexes; structs = n.structs }

abbrev pub one_more_mutex : Totals → Totals
one_more_mutex n = record { items = n.items; functions = n.functions; globals = n.globals; mutexes = suc n.mutexes; structs = n.structs }

abbrev pub one_more_struct : Totals → Totals
one_more_struct n = record { items = n.items; functions = n.functions; globals = n.globals; mutexes = n.mutexes; structs = suc n.structs }

-- a function with items up to m, its closing brace included
abbrev pub one_more_function : Totals → ℕ → Totals
one_more_function n m = record { items = m; functions = suc n.functions; globals = n.globals; mutexes = n.mutexes; structs = n.structs }

abbrev pub nothing_yet : Totals
nothing_yet = record { items = 0; functions = 0; globals = 0; mutexes = 0; structs = 0 }
