-- Items of worked sources.
use Rattle.std.specs.Prelude.{ℕ}
use Rattle.ca_model.specs.declared.tree.Act.{Act}
use Rattle.ca_model.specs.declared.tree.Item.{Item}

-- item number n, on line n
abbrev pub item : ℕ → Act → Item
item n a = record { id = record { 0 = n }; pos = record { line = n; column = 1 }; act = a }
