-- Control goes from item to item along links.
use Rattle.std.specs.Prelude.{◌≡◌, ℕ, zero, suc, List, [], ◌∷◌, ◌++◌, slice_get, Contains}
use Rattle.ca_tree.specs.declared.numbers.FunId.{FunId}
use Rattle.ca_tree.specs.declared.numbers.ItemId.{ItemId}
use Rattle.ca_model.specs.declared.values.Value.{Value}
use Rattle.ca_model.specs.declared.tree.Item.{Item}
use Rattle.ca_model.specs.declared.tree.Stmt.{out-Stmt}
use Rattle.ca_model.specs.declared.tree.Function.{Function}
use Rattle.ca_model.specs.Asks.{Want, Saves, Is, Wants, No_result}
use Rattle.ca_model.specs.Items.{Done}
use Rattle.ca_model.specs.Frames.{Code, Left, Enter, Begin, After, Run, Loop, Frame, begun, gives_way, entered}
use Rattle.ca_model.specs.Codes.{Typed}
use Rattle.ca_model.specs.Links.{Next, first_item}
use Rattle.ca_model.specs.Begun.{IsReturn, InProgress, opening_item}

-- the item that stands first in what is left, if one does: a statement's own item or its `if` condition, and a loop's condition
abbrev pub head_item : Left → List Item
head_item (Begin i) = i ∷ []
head_item (Run s) = opening_item (out-Stmt s)
head_item (Loop c body step) = c ∷ []
head_item _ = []

abbrev pub first_head : List Left → List Item
first_head [] = []
first_head (x ∷ ls) = head_item x

-- the items that stand first in a frame and after each of at most n silent steps
abbrev pub heads_by : Code → ℕ → Frame → List Item
heads_by code zero f = first_head f.left
heads_by code (suc n) f = first_head f.left ++ elim (begun code f) [ Is d rest ↦ heads_by code n (gives_way f d rest) | Wants w ↦ [] | No_result ↦ [] ]

-- the first item of a list, if there is one, is i
abbrev pub BeginsWith : Item → List Item → Type 0
BeginsWith i [] = Unit {0}
BeginsWith i (j ∷ js) = j ≡ i

-- item i is linked to the first item of a list, if there is one
abbrev pub LinksTo : Typed → Item → List Item → Type 0
LinksTo p i [] = Unit {0}
LinksTo p i (j ∷ js) = Next p i j

-- each two neighbours of a list are linked
abbrev pub AreLinked : Typed → List Item → Type 0
AreLinked p [] = Unit {0}
AreLinked p (i ∷ is) = LinksTo p i is × AreLinked p is

abbrev pub with_answer : Frame → Value → Frame
with_answer f x = record f { answers = f.answers ++ x ∷ [] }

pub record FollowsLinks (p : Typed) (code : Code) : Type 0 where
  -- a function comes to its first item, and goes on along links
  pub at_the_start : (f : Function) (xs : List Value) (n : ℕ) → Contains p.functions f
      → BeginsWith (first_item f) (heads_by code n (entered f.id xs (slice_get code.functions f.id.0))) × AreLinked p (heads_by code n (entered f.id xs (slice_get code.functions f.id.0)))
  -- after an answer it goes on along links from the item in progress
  pub after_an_answer : (f : Frame) (w : Want) (x : Value) (n : ℕ) → InProgress code f → begun code f ≡ Wants w → (IsReturn w → ⊥) → AreLinked p (heads_by code n (with_answer f x))
  -- behind an item that is done stands its own place for a save
  pub behind_an_item : (f : Frame) (d : Done) (rest : List Value) (i : Item) → begun code f ≡ Is d rest → first_head f.left ≡ i ∷ [] → (ls : List Left) × ((gives_way f d rest).left ≡ After i.id ∷ ls)
  -- after a save behind an item, from that item
  pub after_a_save : (f : Frame) (i : ItemId) (ls : List Left) → InProgress code f → begun code f ≡ Wants Saves → f.left ≡ After i ∷ ls
      → (j : Item) × (j.id ≡ i) × ((x : Value) (n : ℕ) → AreLinked p (j ∷ heads_by code n (with_answer f x)))
  -- and after a save at the entry of a function, to the first item of that function
  pub after_an_entry : (f : Frame) (g : FunId) (ls : List Left) → InProgress code f → begun code f ≡ Wants Saves → f.left ≡ Enter g ∷ ls
      → (h : Function) × Contains p.functions h × (h.id ≡ g) × ((x : Value) (n : ℕ) → BeginsWith (first_item h) (heads_by code n (with_answer f x)))
