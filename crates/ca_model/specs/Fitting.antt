-- What is left of a plan's lists behind some items: a plan fits where nothing is left behind all of them.
use Rattle.std.specs.Prelude.{ℕ, ◌-◌, Bool, true, not, ◌&&◌, ◌==◌, nat_lt, List, [], ◌∷◌, Option, Some, None, if◌then◌else◌}
use Rattle.ca_tree.specs.declared.numbers.FunId.{FunId}
use Rattle.ca_tree.specs.declared.numbers.ItemId.{ItemId}
use Rattle.ca_tree.specs.declared.numbers.SiteId.{SiteId}
use Rattle.ca_model.specs.declared.tree.Act.{Act}
use Rattle.ca_model.specs.declared.tree.Item.{Item}
use Rattle.ca_model.specs.declared.tree.Function.{Function}
use Rattle.ca_model.specs.Sites.{act_sites, items_of}
use Rattle.ca_model.specs.Destroying.{destroys, is_last}
use Rattle.ca_model.specs.Plans.{can_acquire}

-- a list from which the first is taken, where it is this one and may stand there
abbrev pub without : {A : Type 0} → (A → ℕ) → Bool → ℕ → List A → List A
without number may_stand n [] = []
without number may_stand n (x ∷ xs) = if may_stand && number x == n then xs else x ∷ xs

-- items with a save after them, items that acquire, functions with a save at their entry, and how many sites there have to be yet
pub record Left : Type 0 where
  pub saves : List ItemId
  pub acquires : List ItemId
  pub entries : List FunId
  pub sites : ℕ

abbrev pub can_save : Act → Bool
can_save a = destroys a && not (is_last a)

abbrev pub behind_item : Left → Item → Left
behind_item l i = record {
  saves = without (λ (j : ItemId). j.0) (can_save i.act) i.id.0 l.saves;
  acquires = without (λ (j : ItemId). j.0) (can_acquire i.act) i.id.0 l.acquires;
  entries = l.entries;
  sites = l.sites - act_sites i.act;
}

abbrev pub behind_items : Left → List Item → Left
behind_items l [] = l
behind_items l (i ∷ is) = behind_items (behind_item l i) is

abbrev pub begin_function : Left → FunId → Left
begin_function l f = record l { entries = without (λ (g : FunId). g.0) true f.0 l.entries }

abbrev pub behind_functions : Left → List Function → Left
behind_functions l [] = l
behind_functions l (f ∷ fs) = behind_functions (behind_items (begin_function l f.id) (items_of f)) fs

abbrev pub left : List ItemId → List ItemId → List FunId → ℕ → Left
left saves acquires entries n = record { saves = saves; acquires = acquires; entries = entries; sites = n }

-- the last of some sites, where their numbers ascend from above n; n where there is none
abbrev pub ascending_to : ℕ → List SiteId → Option ℕ
ascending_to n [] = Some n
ascending_to n (s ∷ ss) = if nat_lt n s.0 then ascending_to s.0 ss else None
