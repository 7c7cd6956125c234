-- How the points of items are found, and their words: once for each straight run of items.
use Rattle.std.specs.Prelude.{◌≡◌, ◌<◌, ℕ, ◌+◌, List, map, length, get_or, ◌↔◌, Option, Some, None}
use Rattle.ca_tree.specs.declared.numbers.ItemId.{ItemId}
use Rattle.ca_tree.specs.declared.text.Pos.{Pos}
use Rattle.ca_model.specs.declared.tree.Item.{Item}
use Rattle.ca_model.specs.declared.tree.Function.{Function}
use Rattle.ca_model.specs.typing.Sources.{Source}
use Rattle.ca_model.specs.Codes.{Typed}
use Rattle.ca_model.specs.Bounds.{IsBounded}
use Rattle.ca_model.specs.WellFormed.{IsWellFormed}
use Rattle.ca_model.specs.Sites.{all_items}
use Rattle.ca_model.specs.Paths.{PointAfter, PointAtEntry}
use Rattle.ca_model.specs.Plans.{IsItem}
use Rattle.ca_plan.specs.SiteTables.{ArePointsOf, names, points_text}
use Rattle.ca_plan.specs.declared.finder.Known.{Known}

-- two items have the same points at every depth
abbrev pub HaveSamePoints : Typed → Item → Item → Type 0
HaveSamePoints p x y = (depth : ℕ) → ((f : Function) → PointAtEntry p depth x f ↔ PointAtEntry p depth y f) × ((j : Item) → PointAfter p depth x j ↔ PointAfter p depth y j)

-- an item with the points of another one, by its number
abbrev pub IsHeadOf : Typed → Item → ItemId → Type 0
IsHeadOf p x head = (y : Item) × IsItem p y head × HaveSamePoints p x y

-- by the numbers of items, items with the same points
abbrev pub AreHeads : Typed → List ItemId → Type 0
AreHeads p heads = (x : Item) → IsItem p x x.id → x.id.0 < length heads → IsHeadOf p x (get_or heads x.id.0 x.id)

-- a text is that of the points of an item
abbrev pub AreWordsOf : Source → ℕ → Item → List ℕ → Type 0
AreWordsOf s depth x words = (entries : List Function) × (after : List Item) × ArePointsOf s.typed depth x entries after × (words ≡ points_text s.program entries after)

-- the words that are kept are those of the item with this number
abbrev pub IsKnown : Source → ℕ → Known → Type 0
IsKnown s depth k = (x : Item) → IsItem s.typed x k.head → AreWordsOf s depth x k.words.items

abbrev pub IsKnownIfAny : Source → ℕ → Option Known → Type 0
IsKnownIfAny s depth None = Unit {0}
IsKnownIfAny s depth (Some k) = IsKnown s depth k

-- what is looked up is that of a source
pub record IsLookup (s : Source) (callers : Typed) (heads : List ItemId) (its_names : List (List ℕ)) (places : List Pos) : Type 0 where
  pub formed : IsWellFormed s.typed
  pub bounded : IsBounded s.typed
  pub links : callers ≡ s.typed
  pub runs : AreHeads s.typed heads
  pub many : length heads ≡ length (all_items s.typed.functions) + 1
  pub named : its_names ≡ names s.program
  pub placed : places ≡ map (λ (i : Item). i.pos) (all_items s.typed.functions)
