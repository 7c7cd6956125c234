-- What is looked up in a source with its plan.
use Rattle.std.specs.Prelude.{◌≡◌, ◌==◌, ℕ, Bool, false, List, ◌∷◌, get_or, Contains}
use Rattle.std.specs.List.{list_any}
use Rattle.ca_tree.specs.declared.numbers.FunId.{FunId}
use Rattle.ca_tree.specs.declared.numbers.ItemId.{ItemId}
use Rattle.ca_tree.specs.declared.numbers.SiteId.{SiteId}
use Rattle.ca_model.specs.declared.plan.Plan.{Plan}
use Rattle.ca_model.specs.declared.tree.Item.{Item}
use Rattle.ca_model.specs.declared.tree.Function.{Function}
use Rattle.ca_model.specs.Codes.{Typed}
use Rattle.ca_model.specs.Sites.{items_of, all_items}
use Rattle.ca_model.specs.WellFormed.{IsWellFormed}
use Rattle.ca_model.specs.Bounds.{IsBounded}
use Rattle.ca_tables.specs.Counted.{behind_each}

-- a source with a plan
pub record Planned : Type 0 where
  pub source : Typed
  pub plan : Plan

-- a table tells which numbers stand in a list
abbrev pub Tells : {A : Type 0} → List Bool → (A → ℕ) → List A → Type 0
Tells table number xs = (n : ℕ) → get_or table n false ≡ list_any (λ x. number x == n) xs

-- tables of a source with a plan
pub record AreTables (x : Planned) (behind : List ℕ) (saves entries sites acquires : List Bool) : Type 0 where
  pub formed : IsWellFormed x.source
  pub bounded : IsBounded x.source
  pub behind_is : behind ≡ 1 ∷ behind_each 1 (all_items x.source.functions)
  pub saves_are : Tells saves (λ (i : ItemId). i.0) x.plan.saves_after
  pub entries_are : Tells entries (λ (f : FunId). f.0) x.plan.saves_at_entry
  pub sites_are : Tells sites (λ (s : SiteId). s.0) x.plan.sites
  pub acquires_are : Tells acquires (λ (i : ItemId). i.0) x.plan.acquires
