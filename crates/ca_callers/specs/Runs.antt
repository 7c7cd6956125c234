-- Items in a straight run.
use Rattle.std.specs.Prelude.{◌≡◌, ℕ, false, List, Contains}
use Rattle.ca_model.specs.declared.tree.Item.{Item}
use Rattle.ca_model.specs.declared.tree.Function.{Function}
use Rattle.ca_model.specs.Codes.{Typed}
use Rattle.ca_model.specs.Links.{Next, first_item}
use Rattle.ca_model.specs.Destroying.{destroys}

-- j alone is linked to i, and doesn't destroy; and no function begins with i
pub record IsInRun (p : Typed) (i j : Item) : Type 0 where
  pub next : Next p j i
  pub only : (k : Item) → Next p k i → k ≡ j
  pub harmless : destroys j.act ≡ false
  pub inner : (f : Function) → Contains p.functions f → first_item f ≡ i → ⊥

-- a row has a number, and no other one
abbrev pub IsOnly : List ℕ → ℕ → Type 0
IsOnly ns n = Contains ns n × ((m : ℕ) → Contains ns m → m ≡ n)
