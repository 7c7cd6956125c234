-- The numbers of the sites of each item, as data.
use Rattle.std.specs.Prelude.{ℕ, ◌+◌, List, [], ◌∷◌, ◌++◌}
use Rattle.ca_model.specs.declared.tree.Item.{Item}
use Rattle.ca_model.specs.declared.tree.Function.{Function}
use Rattle.ca_model.specs.Sites.{act_sites, items_of}

-- the number behind the last site of each item so far, and the next one
pub record Counted : Type 0 where
  pub behind : List ℕ
  pub next : ℕ

abbrev pub count_item : Counted → Item → Counted
count_item c i = record { behind = c.behind ++ ((c.next + act_sites i.act) ∷ []); next = c.next + act_sites i.act }

abbrev pub count_items : Counted → List Item → Counted
count_items c [] = c
count_items c (i ∷ is) = count_items (count_item c i) is

abbrev pub count_functions : Counted → List Function → Counted
count_functions c [] = c
count_functions c (f ∷ fs) = count_functions (count_items c (items_of f)) fs

-- the number behind the last site of each of some items, where n is the first
abbrev pub behind_each : ℕ → List Item → List ℕ
behind_each n [] = []
behind_each n (i ∷ is) = (n + act_sites i.act) ∷ behind_each (n + act_sites i.act) is
