-- What is lowered: a function of a source with a plan, and an item of it.
use Rattle.std.specs.Prelude.{◌≡◌, ◌==◌, ℕ, Bool, false, List, ◌∷◌, get_or, Contains}
use Rattle.ca_model.specs.declared.plan.Plan.{Plan}
use Rattle.ca_model.specs.declared.tree.Item.{Item}
use Rattle.ca_model.specs.declared.tree.Function.{Function}
use Rattle.ca_model.specs.Codes.{Typed}
use Rattle.ca_model.specs.Sites.{items_of, all_items}

-- a function of it
pub record InFunction : Type 0 where
  pub source : Typed
  pub plan : Plan
  pub function : Function

-- an item of that function
pub record InItem : Type 0 where
  pub source : Typed
  pub plan : Plan
  pub function : Function
  pub item : Item

abbrev pub IsInFunction : InFunction → Type 0
IsInFunction x = Contains x.source.functions x.function

abbrev pub IsInItem : InItem → Type 0
IsInItem x = Contains x.source.functions x.function × Contains (items_of x.function) x.item
