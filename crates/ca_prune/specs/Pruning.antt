-- Sites at which going back can't help, and why.
use Rattle.std.specs.Prelude.{◌≡◌, ◌<◌, ◌↔◌, ℕ, Bool, true, false, List, ◌∷◌, map, Contains, Option, MatchOption}
use Rattle.ca_tree.specs.declared.numbers.ItemId.{ItemId}
use Rattle.ca_reach.specs.Reach.{IsSet}
use Rattle.ca_model.specs.declared.tree.Act.{Act}
use Rattle.ca_model.specs.declared.tree.Item.{Item}
use Rattle.ca_model.specs.Codes.{Typed}
use Rattle.ca_model.specs.Accesses.{Kind, A_lock, Site, act_accesses}
use Rattle.ca_model.specs.Hopeless.{IsHopeless}
use Rattle.ca_model.specs.Paths.{Before}
use Rattle.ca_model.specs.Plans.{IsItem}
use Rattle.ca_model.specs.Sites.{all_items}
use Rattle.ca_flow.specs.Changes.{any_changes, kinds_of}
use Rattle.ca_flow.specs.declared.changes.ItemKind.{ItemKind}
use Rattle.ca_flow.specs.declared.searches.Reason.{Reason}
use Rattle.ca_flow.specs.declared.searches.Reason.TheVariants as reason

-- no lock, or no shared read and no `malloc`
abbrev pub reason_of : Kind → Reason
reason_of A_lock = reason.Lock
reason_of _ = reason.Local

-- the reason at a site, and none where going back can help
abbrev pub Tells : Typed → ℕ → Site → Option Reason → Type 0
Tells p depth s r = MatchOption r (IsHopeless p depth s → ⊥) (λ (why : Reason). IsHopeless p depth s × (why ≡ reason_of s.kind))

-- some numbers are those of the items before an item
abbrev pub AreBefore : Typed → ℕ → Item → List ItemId → Type 0
AreBefore p depth x items = (i : ItemId) → i.0 < 4294967296 → Contains items i ↔ ((j : Item) × (j.id ≡ i) × Before p depth x j)

-- ---- tests of items

-- a shared read or a `malloc`
abbrev pub act_changes : Act → Bool
act_changes a = any_changes (act_accesses a)

-- an item that passes a test stands before another
abbrev pub HasBefore : Typed → ℕ → Item → (Act → Bool) → Type 0
HasBefore p depth x test = (j : Item) × Before p depth x j × (test j.act ≡ true)

-- an item with one of some numbers passes a test
abbrev pub HasAmong : Typed → List ItemId → (Act → Bool) → Type 0
HasAmong p items test = (x : Item) × IsItem p x x.id × Contains items x.id × (test x.act ≡ true)

-- flags by number, which begin with 1
abbrev pub by_number : (ItemKind → Bool) → List ItemKind → List Bool
by_number test kinds = false ∷ map test kinds

-- flags of the items that have one before them that passes a test
abbrev pub AreBehind : Typed → ℕ → (ItemKind → Bool) → List Bool → Type 0
AreBehind p depth test flags = (x : Item) → IsItem p x x.id → IsSet flags x.id.0 ↔ ((j : Item) × Before p depth x j × IsSet (by_number test (kinds_of (all_items p.functions))) j.id.0)
